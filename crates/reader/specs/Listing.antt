-- Promise 5: Listing 1 of source 000, as printed less its line numbers, gives Table A. The definitions compute it.
use Rattle.std.specs.Prelude.{◌∷◌, ◌++◌, ◌≡◌}
use Rattle.common.specs.Words.{ℕ, true, false, List, refl, replicate}
use Rattle.words.specs.Letters.{letters, words_by, same}
use Rattle.findings.specs.declared.Table.{Table}
use Rattle.findings.specs.Findings.{sound, answered}
use Rattle.common.specs.Table.{table}
use Rattle.words.specs.Found.{sum_by, number_by, padded}
use Rattle.words.specs.Words.{kinds, listed, rank, kind_of}
use Rattle.plain.specs.Plain.{lower, two, three, string_by, close_by, annex_rest, begun, step_of, plain_by, mark_rest, plain_of}
use Rattle.tokens.specs.Spots.{behind}
use Rattle.tokens.specs.Tokens.{sort_of, run, word_shape, number_width, sign_shape, shape_of, tokens_by, from}
use Rattle.steps.specs.Faults.{worse, worst}
use Rattle.steps.specs.Steps.{any, the, name, own, optional, many_by, many}
use Rattle.values.specs.Values.{part_kind, value_by, values_by, list_by, record_by, part_by, part_of, value, values, scoped, assigns, association}
use Rattle.values.specs.Values.{associations, block}
use Rattle.phrases.specs.Phrases.{rest_kind, rest, scopes, dotted, classifier, join_kind, path, paths, annex, direction, port_kind, link_kind, place}
use Rattle.phrases.specs.Phrases.{arrow, nothing, section_kind, skip_kind, skipped, label, maybe_label, maybe_classifier, word_and_rest}
use Rattle.rows.specs.Rows.{process_row, type_row, implementation_row, port_row, thread_row, link_row}
use Rattle.rows.specs.Said.{optionally, repeat_by, repeat, merged, apart, adding}
use Rattle.times.specs.Times.{with_byte, with_bytes, filled, time_of, time}
use Rattle.times.specs.Priorities.{priority_of, priority}
use Rattle.properties.specs.Properties.{named_by, set_of, property_by, property_at, read_in, right_by, form, owned, note_in, skipped_in}
use Rattle.properties.specs.Properties.{association_in, associations_in, block_in, maybe_block_in, none_or, properties_in}
use Rattle.features.specs.Features.{direction_of, port_head, port, other_feature, feature_of, feature, features}
use Rattle.threads.specs.Threads.{type_in, implementation_in, thread_of, thread, other_component, subcomponent_of, subcomponent, subcomponents}
use Rattle.links.specs.Links.{ends, timing_by, declared, link, other_kind, connection_of, label_in, connection, connection_kind, connections}
use Rattle.declarations.specs.Declarations.{maybe_extends, type_head, type_end, thread_type, implementation_head, implementation_end, implementation}
use Rattle.declarations.specs.Declarations.{thread_implementation, process_implementation}
use Rattle.declarations.specs.Sections.{list_kind, allowed, list_in, properties_of, section, sections}
use Rattle.others.specs.Others.{outside_kind, reaching, waiting_after, noted_at, last_kind, passing, path_end, other}
use Rattle.texts.specs.Texts.{declaration_kind, thread_by, chosen, declaration, none_or_some, clause_kind, clause, part, parts, packaged, piece_kind}
use Rattle.texts.specs.Texts.{piece, pieces, finished, whole_text}
use Rattle.keys.specs.Keys.{spelled, meant, same_meaning, turned, stirred, named, lanes_of, hash_of, name_byte}
use Rattle.index.specs.Found.{found}
use Rattle.index.specs.Index.{rows_in, declared_key, key_by, keys_of}
use Rattle.ways.specs.Ways.{type_named, implementation_of, way_by, way, first_in, property_of, port_of, ends_of}
use Rattle.verdict.specs.Verdict.{again_faults, thread_faults, out_faults, in_faults, twice_faults, join_faults, end_faults, link_faults, row_faults}
use Rattle.verdict.specs.Verdict.{faults_below, process_faults, judged}
use Rattle.chosen.specs.Chosen.{chosen_below, threads_of, queues_of}
use Rattle.kit.specs.Kit.{position, receiver_of, joins, table_of}
use Rattle.reader.specs.Reader.{read_from, faults_in, faults_of, answer_by, answer_plain, read_of}

abbrev listing1 : List ℕ
listing1 =
    letters "process implementation proc.impl\nsubcomponents\n"
    ++ letters "  T1: thread producer.impl {Period => 5 ms;\n    Deadline => 5 ms; Priority => 3; };\n"
    ++ letters "  T2: thread producer.impl {Period => 7 ms;\n    Deadline => 7 ms; Priority => 2; };\n"
    ++ letters "  T3: thread consumer.impl {Period => 10 ms;\n    Deadline => 10 ms; Priority => 1; };\n"
    ++ letters "connections\n  cnx1: port T1.p_out -> T3.p_in;\n  cnx2: port T2.p_out -> T3.p_in;\nend proc.impl;\n\n"
    ++ letters "thread producer extends Periodic_Thread\nfeatures\n"
    ++ letters "  p_out: out event data port MyType\n    { Timing => Delayed; };\nend producer;\n\n"
    ++ letters "thread implementation consumer.impl\ncalls\n  seq: { call1: subprogram consumer_job; };\n"
    ++ letters "connections\n  cnx1: parameter p_in -> call1.param_in;\nend consumer.impl;\n\n"
    ++ letters "subprogram consumer_job\nfeatures\n  param_in: in parameter MyType;\n"
    ++ letters "properties\n  Execution_Time => 1 ms .. 3 ms;\n  Source_Stack_Size => 40 Kbytes;\nend consumer_job;\n"

-- source 000's Table A: tasks 1 and 2 send to task 3
abbrev table_a : Table
table_a = record {
  tasks = 3;
  queues = 1;
  period = 5 ∷ 7 ∷ 10 ∷ replicate 13 0;
  deadline = 5 ∷ 7 ∷ 10 ∷ replicate 13 0;
  priority = 3 ∷ 2 ∷ 1 ∷ replicate 13 0;
  receiver = 2 ∷ replicate 7 0;
  sends = true ∷ true ∷ replicate 126 false;
}

pub listing_1_is_table_a : read_of listing1 ≡ answered sound table_a
unfolding table sum_by number_by padded words_by same kinds listed rank kind_of lower two three string_by close_by annex_rest begun step_of plain_by
    mark_rest plain_of
    behind sort_of run word_shape number_width sign_shape shape_of tokens_by from worse worst any the name own optional many_by many part_kind
    value_by
    values_by list_by record_by part_by part_of value values scoped assigns association associations block rest_kind rest scopes dotted classifier
    join_kind
    path paths annex direction port_kind link_kind place arrow nothing section_kind skip_kind skipped label maybe_label maybe_classifier word_and_rest
    process_row type_row implementation_row port_row thread_row link_row optionally repeat_by repeat merged apart adding with_byte with_bytes filled
    time_of
    time priority_of priority named_by set_of property_by property_at read_in right_by form owned note_in skipped_in association_in associations_in
    block_in
    maybe_block_in none_or properties_in direction_of port_head port other_feature feature_of feature features type_in implementation_in thread_of
    thread
    other_component subcomponent_of subcomponent subcomponents ends timing_by declared link other_kind connection_of label_in connection
    connection_kind
    connections maybe_extends type_head type_end thread_type implementation_head implementation_end implementation thread_implementation
    process_implementation list_kind allowed list_in properties_of section sections outside_kind reaching waiting_after noted_at last_kind passing
    path_end
    other declaration_kind thread_by chosen declaration none_or_some clause_kind clause part parts packaged piece_kind piece pieces finished
    whole_text
    spelled meant same_meaning turned stirred named lanes_of hash_of name_byte found rows_in declared_key key_by keys_of type_named
    implementation_of way_by
    way first_in property_of port_of ends_of again_faults thread_faults out_faults in_faults twice_faults join_faults end_faults link_faults
    row_faults
    faults_below process_faults judged chosen_below threads_of queues_of position receiver_of joins table_of read_from faults_in faults_of
    answer_by
    answer_plain read_of Rattle.declarations.specs.Sections.listed Rattle.others.specs.Others.other_kind Rattle.texts.specs.Texts.part_kind
    Rattle.ways.specs.Ways.ends Rattle.kit.specs.Kit.figure_of
listing_1_is_table_a = refl
