-- The lookups among each other: number and way back invert each other wherever either answers, and a window answers the numbers of the
-- messages with deadlines after the job's previous release and not after its own.
use Rattle.std.specs.Prelude.{◌-◌, ◌*◌, ◌<◌, ◌≤◌, ◌↔◌, ◌≡◌, Ok, Err, Result}
use Rattle.common.specs.Words.{ℕ, List, ap, arith, pos_of_ne-zero, zero-mul, true, false, not, not-false}
use Rattle.common.specs.Words.{ltb, ltb-true, ltb-false, lt-ltb, le-ltb, eqb-false, ne_eqb}
use Rattle.common.specs.Tests.{having}
use Rattle.model.specs.Model.{Sender, receiver_period, released, deadline_of, number, up_to, sender_of, job_of, first, last}
use Rattle.model.proofs.Number.{number_iff, number_above}
use Rattle.model.proofs.WayBack.{way_back, way_there}
use Rattle.model.proofs.Window.{window_iff, window_zero}
use Rattle.calendar.specs.Calendar.{job, message}
use Rattle.lookups.specs.Types.{Job, Number, Plan, Refusal, Origin, Window}
use Rattle.plan.specs.Limits.{last_tick}
use Rattle.plan.specs.Plan.{queue_at}
use Rattle.plan.specs.Rules.{sound_plan}
use Rattle.plan.specs.Sound.{Sound, sound_iff, usable}
use Rattle.lookups.specs.Lookups.{number_lines, numbered_of, origin_lines, origins_of, window_lines, window, window_of}
use Rattle.plan.specs.Facts.{connected_iff}
use Rattle.plan.specs.Refusals.{Line, judged}
use Rattle.plan.specs.Verdicts.{Passed, judged_good}

-- ## When a lookup answers, and what

-- an answer that is no refusal is the good one, and no line applied
answered : {A : Type 0} (lines : List Line) (good : A) {a : A} → judged {A = Result A Refusal} lines Err (Ok good) ≡ Ok a →
    Passed lines × (good ≡ a)
answered {A} lines good {a} e =
    having (judged_good {A = Result A Refusal} Err (Ok good) (Ok a) (λ r e. let z : ◌≡◌ {A = ℕ} 0 1 = cc in omega arith) lines e)
    (λ x. (x.0, cc x.1))

pub record Counted (p : Plan) (q : ℕ) : Type 0 where
  pub sound : Sound p
  pub queue : q < p.queues

pub record NumberIs (p : Plan) (q i : ℕ) (k : Job) (n : Number) : Type 0 where
  pub counted : Counted p q
  pub sender : Sender (queue_at p q) i
  pub early : deadline_of (queue_at p q) i k.0 ≤ last_tick
  pub is : number (queue_at p q) i k.0 ≡ n.0

pub record ComesFrom (p : Plan) (q : ℕ) (n : Number) (i : ℕ) (k : Job) : Type 0 where
  pub counted : Counted p q
  pub pos : 1 ≤ n.0
  pub early : n.0 ≤ up_to (queue_at p q) last_tick
  pub sender_is : sender_of (queue_at p q) last_tick n.0 ≡ i
  pub job_is : job_of (queue_at p q) last_tick n.0 ≡ k.0

pub record WindowIs (p : Plan) (q : ℕ) (m : Job) (a b : Number) : Type 0 where
  pub counted : Counted p q
  pub early : released (receiver_period (queue_at p q)) m.0 ≤ last_tick
  pub from : first (queue_at p q) m.0 ≡ a.0
  pub to : last (queue_at p q) m.0 ≡ b.0

module _ (p : Plan) (q : ℕ) where
  sound_test : not (sound_plan p) ≡ false → Sound p
  sound_test h = (sound_iff p).0 (not-false _ h)

  queue_test : not (ltb q p.queues) ≡ false → q < p.queues
  queue_test h = ltb-true _ _ (not-false _ h)

  pub number_answers : (i : ℕ) (k : Job) (n : Number) → (numbered_of p q i k ≡ Ok n) ↔ NumberIs p q i k n
  unfolding numbered_of
  number_answers i k n = (
    λ e.
        having (answered (number_lines p q i k) _ e)
        (λ x.
        having ((connected_iff p q i).0 (not-false _ x.0.1.0))
        (λ c. record {
          counted = record { sound = sound_test x.0.0; queue = c.0 };
          sender = c.1;
          early = ltb-false _ _ x.0.1.1.0;
          is = ap (λ (n : Number). n.0) x.1;
        })),
    λ a.
        rw ((sound_iff p).1 a.counted.sound, (connected_iff p q i).1 (a.counted.queue, a.sender), le-ltb _ _ a.early, a.is),
  )

  pub origin_answers : (n : Number) (i : ℕ) (k : Job) → (origins_of p q n ≡ Ok (record { task = i; job = k })) ↔ ComesFrom p q n i k
  unfolding origins_of
  origin_answers n i k = (
    λ e.
        having (answered (origin_lines p q n) _ e)
        (λ x. record {
          counted = record { sound = sound_test x.0.0; queue = queue_test x.0.1.0 };
          pos = pos_of_ne-zero (eqb-false _ _ x.0.1.1.0);
          early = ltb-false _ _ x.0.1.1.1.0;
          sender_is = ap (λ (o : Origin). o.task) x.1;
          job_is = ap (λ (o : Origin). o.job.0) x.1;
        }),
    λ a.
        rw (
          (sound_iff p).1 a.counted.sound,
          lt-ltb _ _ a.counted.queue,
          ne_eqb n.0 0 (λ z. omega (arith, a.pos)),
          le-ltb _ _ a.early,
          a.sender_is,
          a.job_is,
        ),
  )

  pub window_answers : (m : Job) (a b : Number) → (window_of p q m ≡ Ok (record { first = a; last = b })) ↔ WindowIs p q m a b
  unfolding window_of
  window_answers m a b = (
    λ e.
        having (answered (window_lines p q m) _ e)
        (λ x. record {
          counted = record { sound = sound_test x.0.0; queue = queue_test x.0.1.0 };
          early = ltb-false _ _ x.0.1.1.0;
          from = ap (λ (w : Window). w.first.0) x.1;
          to = ap (λ (w : Window). w.last.0) x.1;
        }),
    λ w. rw ((sound_iff p).1 w.counted.sound, lt-ltb _ _ w.counted.queue, le-ltb _ _ w.early, w.from, w.to),
  )

  -- ## Number and way back

  pub number_back : (i : ℕ) (k : Job) (n : Number) → NumberIs p q i k n → ComesFrom p q n i k
  number_back i k n a =
      let v = (usable a.counted.sound q a.counted.queue).valid in
      having (way_back (queue_at p q) v i k.0 n.0 last_tick a.sender a.is a.early)
      (λ b. record {
        counted = a.counted;
        pos = omega (arith, a.is, number_above (queue_at p q) v i k.0 a.sender);
        early = rw a.is at ((number_iff (queue_at p q) v i k.0 a.sender last_tick).1 a.early);
        sender_is = b.1;
        job_is = b.2;
      })

  pub back_number : (i : ℕ) (k : Job) (n : Number) → ComesFrom p q n i k → NumberIs p q i k n
  back_number i k n a =
      let v = (usable a.counted.sound q a.counted.queue).valid in
      having (rw (a.sender_is, a.job_is) at (way_there (queue_at p q) v n.0 last_tick a.pos a.early))
      (λ b. record { counted = a.counted; sender = b.0; early = b.2; is = b.1 })

  -- the number lookup answers n for job k of task i exactly where the way back answers i and k for n
  pub inverse : (i : ℕ) (k : Job) (n : Number) → (numbered_of p q i k ≡ Ok n) ↔ (origins_of p q n ≡ Ok (record { task = i; job = k }))
  inverse i k n = (
    λ e. (origin_answers n i k).1 (number_back i k n ((number_answers i k n).0 e)),
    λ e. (number_answers i k n).1 (back_number i k n ((origin_answers n i k).0 e)),
  )

  -- ## Windows

  -- "job 0: 1 and 0", on every plan and queue that is there
  pub window_job_0 : sound_plan p ≡ true → q < p.queues → window_of p q (job 0) ≡ Ok (window 1 0)
  window_job_0 s l =
      let c : Counted p q = record { sound = (sound_iff p).0 s; queue = l } in
      having (window_zero (queue_at p q) (usable c.sound q c.queue).valid)
      (λ w.
      (window_answers (job 0) (message 1) (message 0)).1 (record {
        counted = c;
        early = rw (zero-mul (receiver_period (queue_at p q))) (omega arith);
        from = w.0;
        to = w.1;
      }))

  -- a window's numbers are those of the messages with deadlines in ((m-1)R, mR]
  pub window_numbers_lem : (m : Job) (a b : Number) → window_of p q m ≡ Ok (record { first = a; last = b }) →
      (i k : ℕ) → Sender (queue_at p q) i →
      ((a.0 ≤ number (queue_at p q) i k) × (number (queue_at p q) i k ≤ b.0)) ↔
      (((m.0 - 1) * receiver_period (queue_at p q) < deadline_of (queue_at p q) i k)
      × (deadline_of (queue_at p q) i k ≤ m.0 * receiver_period (queue_at p q)))
  window_numbers_lem m a b e i k s =
      having ((window_answers m a b).0 e)
      (λ w.
      rw (← w.from, ← w.to)
      (window_iff (queue_at p q) (usable w.counted.sound q w.counted.queue).valid m.0 i k s))
