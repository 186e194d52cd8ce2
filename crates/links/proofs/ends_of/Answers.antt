-- `links::ends_of`.
use Rattle.std.specs.Prelude.{◌≡◌}
use Rattle.steps.specs.Steps.{◌⟫◌}
use Rattle.steps.specs.Lifted.{lift}
use Rattle.phrases.specs.Phrases.{link_kind, place, arrow}
use Rattle.phrases.specs.Laws.{place_then}
use Rattle.words.specs.Kinds.{DOT, DELAYING}
use Rattle.words.specs.Same.{told_eq}
use Rattle.common.specs.Words.{sym, ◌∙◌}
use Rattle.links.specs.Links.{ends, pointed}
use Rattle.links.proofs.ends_of.Goals as goal
use Rattle.links.proofs.ends_of.Goals.{then-eq, else-eq}

pub returns : goal.returns
unfolding ends
returns c =
    let a = c.args in
    let p = a.text.now in let s = lift p a.went in
    let sending : lift p c.link_kind-sending.result ≡ s ⟫ link_kind = c.link_kind-sending.ensures in
    let pointing : lift p c.dotted-pointing.result ≡ s ⟫ link_kind ⟫ place =
    rw (
      c.dotted-pointing.ensures,
      c.name-sender.ensures,
      sending,
      place_then (s ⟫ link_kind),
    ) in
    let receiving : lift p c.arrow-receiving.result ≡ s ⟫ link_kind ⟫ place ⟫ arrow =
    rw (c.arrow-receiving.ensures, pointing) in
    let at_sender : pointed (s ⟫ link_kind) ≡ c.eq.result =
    rw (c.name-sender.ensures, sending) at (told_eq DOT c.next.ensures c.eq.ensures) in
    record {
      went = rw (c.dotted.ensures, c.name-receiver.ensures, receiving, place_then (s ⟫ link_kind ⟫ place ⟫ arrow));
      sender = rw (c.start_of.ensures, sending);
      out = rw (c.start_of-2.ensures, c.symbol.ensures, c.name-sender.ensures, sending);
      receiver = rw (c.start_of-3.ensures, receiving);
      into = rw (c.start_of-4.ensures, c.symbol-2.ensures, c.name-receiver.ensures, receiving);
      both =
          elim c.if-eq.branch [
            | then-eq w ↦
                let at_receiver : pointed (s ⟫ link_kind ⟫ place ⟫ arrow) ≡ w.eq-then-eq.result =
                rw (c.name-receiver.ensures, receiving) at (told_eq DOT w.next-then-eq.ensures w.eq-then-eq.ensures) in
                rw (at_sender, w.if-eq.true, at_receiver) w.result-is
            | else-eq w ↦ rw (at_sender, w.if-eq.false) (w.result-is ∙ w.if-eq.false)
          ];
      delayed = sym (rw pointing at (told_eq DELAYING c.next-2.ensures c.eq-2.ensures));
    }
