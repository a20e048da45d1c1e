-- What each way out of the calls shows. An accepted file and ray can be searched (`searchable`), and the states of the ray's spans that the search
-- finds in the prepared numbers are those of the file's solid on it (`states_are`), for any number of ticks up to 4,096; so are a column's bits, up
-- to 2,048 (`bits_are`). The searches look at no other spans (`halving`, proofs/Within).
use Rattle.std.specs.Prelude.{Ok, Err}
use mathlib.Core.Path.{◌≡◌, refl, ap, ap₂, ◌∙◌}
use mathlib.Core.List.{List, [], ◌∷◌, ◌++◌}
use Prim.Native.Nat.{ℕ, ◌^◌, ◌≤◌, ◌<◌}
use native.Mathlib.Omega.{arith}
use borrow.Author.Tests.{leb-true}
use lib.ListN.{length, get_or, drop}
use lib.IntN.{ℤ}
use lib.Dec.{leb}
use lib.Pow.{pow_pos}
use Rattle.part.specs.declared.Summary.{Summary}
use Rattle.record.specs.Questions.{first_no, Verdict}
use Rattle.record.proofs.Questions.{yes_append, all_yes}
use Rattle.record.specs.declared.Refusal.{Refusal}
use Rattle.record.specs.declared.Refusal.TheVariants as no
use Rattle.part.proofs.File.{answer_accepted, answer_refused}
use Rattle.field.specs.Vectors.{Ray}
use Rattle.field.specs.Ray.{ticks, middle}
use Rattle.field.specs.Solid.{solid_of}
use Rattle.field.specs.Bounds.{empty_mark, solid_by}
use Rattle.field.specs.Marks.{mark_of}
use Rattle.loading.specs.Prepared.{prepared_room}
use Rattle.loading.specs.Loading.{ray_questions, check_ray, loaded_ray}
use Rattle.loading.proofs.Loading.{accepted_ray}
use Rattle.bounds.proofs.Serving.{Serves, serves}
use Rattle.halving.specs.declared.search.Search.{Search}
use Rattle.halving.specs.declared.Cast.{Cast}
use Rattle.halving.specs.declared.FirstHit.{FirstHit}
use Rattle.halving.specs.Answers.{CastAnswer, HitAnswer}
use Rattle.halving.specs.Search.{state_in, Halvable}
use Rattle.bounds.specs.Probe.{Searchable}
use Rattle.halving.specs.Halving.{probe_count, span_marks, walk, handed}
use Rattle.halving.specs.FirstHit.{hit}
use Rattle.halving.proofs.Within.{span_ranges, Agree, count_within, marks_within, walk_within, hit_within}
use Rattle.cast.specs.Ticks.{exponent, ray_state}
use Rattle.cast.specs.Questions.{buffer_questions, check_buffer}
use Rattle.cast.specs.Column.{column_bytes, middle_in, middle_solid, tick_bit, bit_in, bit_of, packed, ColumnAnswer}
use Rattle.cast.specs.Calls.{cast_after, full_cast, marks_after, marks_left}
use Rattle.cast.specs.Calls.{hit_after, first_hit, column_after, column_answer, bits_after, bits_left}
use Rattle.cast.specs.Demands.{CastDemands, HitDemands, ColumnDemands}
use Rattle.cast.proofs.Questions.{asked_before}
use Rattle.cast.proofs.Bits.{packed_same}
use Rattle.cast.proofs.Ticks.{ray_marks_at}
use Rattle.cast.proofs.Demands.{cast_demands, hit_demands, column_demands}

pub whole : (k : ℕ) → Halvable (2 ^ k) 0 (2 ^ k) k
whole k = record { size = refl; end = omega arith }

module _ (file : List ℕ) (ray : Ray) where
  pub ray_accepted : (need room : ℕ) {part : Summary} → check_buffer file ray need room ≡ Ok part → check_ray file ray ≡ Ok part
  unfolding check_buffer buffer_questions check_ray
  ray_accepted need room e = asked_before (ray_questions file ray) ((no.Buffer, leb need room) ∷ []) file e

  pub room_enough : (need room : ℕ) {part : Summary} → check_buffer file ray need room ≡ Ok part → need ≤ room
  unfolding check_buffer buffer_questions
  room_enough need room e =
      let v = answer_accepted (first_no (buffer_questions file ray need room)) file e in
      leb-true need room (all_yes ((no.Buffer, leb need room) ∷ []) (yes_append (ray_questions file ray) ((no.Buffer, leb need room) ∷ []) v).1 0)

  -- the array that `load_ray` leaves
  module _ (lent l : List ℤ) (long : length lent ≡ prepared_room) (loaded : l ≡ loaded_ray file ray lent)
      {part : Summary} (e : check_ray file ray ≡ Ok part) where
    serving : Serves file ray l part
    serving = rw loaded (serves file ray lent long e)

    pub prepared_long : prepared_room ≡ length l
    prepared_long = serving.long

    pub searchable : {T : ℕ} → 1 ≤ T → T ≤ 4096 → Searchable l part T
    searchable low high = record { probe = serving.probe; ticks_low = low; ticks_high = high }

  -- a search in it
  module _ (lent : List ℤ) (s : Search) (long : length lent ≡ prepared_room) (loaded : s.prepared.now ≡ loaded_ray file ray lent)
      (e : check_ray file ray ≡ Ok s.part) where
    served : Serves file ray s.prepared.now s.part
    served = serving lent s.prepared.now long loaded e

    pub states_are : Agree s.ticks (state_in s) (ray_state (solid_of file) ray s.ticks)
    unfolding state_in ray_state
    states_are t len h = served.states (ticks t len s.ticks) (span_ranges (omega arith) h s.searchable.ticks_low s.searchable.ticks_high)

    -- a tick's bit, by the marks that the search finds, is its own
    pub bits_are : (k : ℕ) → s.ticks ≡ 2 ^ k → 2 ^ k ≤ 2048 → (t : ℕ) → t < 2 ^ k
        → bit_in s (span_marks (state_in s) k 0) t ≡ bit_of (solid_of file) ray s.ticks t
    unfolding bit_in middle_in bit_of middle_solid
    bits_are k size few t h =
        let agree = states_are in
        let of-ray = span_ranges {s = middle t s.ticks} (omega arith) (omega arith) (omega arith) (omega arith) in
        let mark : get_or (span_marks (state_in s) k 0) t empty_mark ≡ mark_of (solid_of file) ray s.ticks t
        = ap (λ (ms : List ℕ). get_or ms t empty_mark) (marks_within agree k 0 (omega arith))
        ∙ rw size (ray_marks_at (solid_of file) (accepted_ray file ray e).valid ray k t empty_mark h) in
        ap₂ tick_bit mark (ap₂ solid_by served.iso_is (served.bounds (middle t s.ticks) of-ray))

-- ---- a cast that hands over T ticks' marks: in the states it finds an answer, and marks of every tick

module _ (file : List ℕ) (ray : Ray) (T : ℕ) (lent : List ℕ) (cast-in : (ℕ → ℕ → ℕ) → Cast) (marks-in : (ℕ → ℕ → ℕ) → List ℕ) where
  abbrev states : ℕ → ℕ → ℕ
  states = ray_state (solid_of file) ray T

  abbrev verdict : Verdict
  verdict = first_no (buffer_questions file ray T (length lent))

  -- its answer and the buffer afterwards
  abbrev pub Made : CastAnswer → List ℕ → Type 0
  Made w l = (w ≡ cast_after verdict (cast-in states)) × (l ≡ marks_after verdict T (cast-in states) (marks-in states) lent)

  pub marks_refused : {e : Refusal} → check_buffer file ray T (length lent) ≡ Err e → Made (Err e) lent
  unfolding check_buffer cast_after marks_after
  marks_refused e = let v = answer_refused verdict file e in (rw v, rw v)

  pub marks_made : {st : ℕ → ℕ → ℕ} (w : Cast) (l : List ℕ) {part : Summary} → cast-in st ≡ cast-in states → marks-in st ≡ marks-in states
      → check_buffer file ray T (length lent) ≡ Ok part → w ≡ cast-in st → l ≡ handed T w (marks-in st) ++ drop T lent → Made (Ok w) l
  unfolding check_buffer cast_after marks_after
  marks_made w l same_answer same_marks e answer bytes =
      let v = answer_accepted verdict file e in
      let a = answer ∙ same_answer in (
        rw v (ap Ok a),
        rw v (bytes
            ∙ ap (λ (ms : List ℕ). handed T w ms ++ drop T lent) same_marks
            ∙ ap (λ (w : Cast). handed T w (marks-in states) ++ drop T lent) a),
      )

-- ---- full cast

module _ (file : List ℕ) (ray : Ray) (budget : ℕ) (lent : List ℕ) where
  -- what the call promises of an answer and of the buffer
  abbrev pub CastPromised : CastAnswer → List ℕ → Type 0
  CastPromised w l =
      (w ≡ full_cast file ray budget (length lent))
      × ((l ≡ marks_left file ray budget lent) × CastDemands (solid_of file) ray exponent budget w l)

  -- the halving search of states
  abbrev walk_in : (ℕ → ℕ → ℕ) → Cast
  walk_in st = walk st budget exponent 0 0

  abbrev marks_of_lem : (ℕ → ℕ → ℕ) → List ℕ
  marks_of_lem st = span_marks st exponent 0

  cast_promised : (w : CastAnswer) (l : List ℕ) → Made file ray (2 ^ exponent) lent walk_in marks_of_lem w l → CastPromised w l
  unfolding full_cast marks_left
  cast_promised w l (e, f) = (e, (f, rw (e, f) (cast_demands file ray budget lent)))

  pub cast_refused : {e : Refusal} → check_buffer file ray (2 ^ exponent) (length lent) ≡ Err e → CastPromised (Err e) lent
  cast_refused e = cast_promised _ lent (marks_refused file ray (2 ^ exponent) lent walk_in marks_of_lem e)

  pub cast_made : {st : ℕ → ℕ → ℕ} (w : Cast) (l : List ℕ) {part : Summary}
      → Agree (2 ^ exponent) st (ray_state (solid_of file) ray (2 ^ exponent))
      → check_buffer file ray (2 ^ exponent) (length lent) ≡ Ok part → w ≡ walk st budget exponent 0 0
      → l ≡ handed (2 ^ exponent) w (span_marks st exponent 0) ++ drop (2 ^ exponent) lent → CastPromised (Ok w) l
  cast_made w l agree e answer bytes =
      cast_promised (Ok w) l (marks_made file ray (2 ^ exponent) lent walk_in marks_of_lem w l
      (walk_within agree budget exponent 0 0 (omega arith)) (marks_within agree exponent 0 (omega arith)) e answer bytes)

-- ---- first hit

module _ (file : List ℕ) (ray : Ray) (budget : ℕ) where
  -- what the call promises of an answer
  abbrev pub HitPromised : HitAnswer → Type 0
  HitPromised f = (f ≡ first_hit file ray budget) × HitDemands (solid_of file) ray exponent budget f

  hit_promised : (f : HitAnswer) → f ≡ first_hit file ray budget → HitPromised f
  hit_promised f e = (e, rw e (hit_demands file ray budget))

  pub hit_refused : {e : Refusal} → check_ray file ray ≡ Err e → HitPromised (Err e)
  unfolding check_ray first_hit hit_after
  hit_refused e = let v = answer_refused (first_no (ray_questions file ray)) file e in hit_promised _ (rw v)

  pub hit_made : {st : ℕ → ℕ → ℕ} (f : FirstHit) {part : Summary} → Agree (2 ^ exponent) st (ray_state (solid_of file) ray (2 ^ exponent))
      → check_ray file ray ≡ Ok part → f ≡ hit st budget exponent 0 0 → HitPromised (Ok f)
  unfolding check_ray first_hit hit_after
  hit_made f agree e answer =
      let v = answer_accepted (first_no (ray_questions file ray)) file e in
      hit_promised (Ok f) (rw v (ap Ok (answer ∙ hit_within agree budget exponent 0 0 (omega arith))))

-- ---- column

module _ (file : List ℕ) (ray : Ray) (lent : List ℕ) where
  -- what the call promises of an answer and of the buffer
  abbrev pub ColumnPromised : ColumnAnswer → List ℕ → Type 0
  ColumnPromised w l =
      (w ≡ column_answer file ray (length lent)) × ((l ≡ bits_left file ray lent) × ColumnDemands (solid_of file) ray exponent w l)

  column_promised : (w : ColumnAnswer) (l : List ℕ) → w ≡ column_answer file ray (length lent) → l ≡ bits_left file ray lent → ColumnPromised w l
  column_promised w l e f = (e, (f, rw (e, f) (column_demands file ray lent)))

  pub column_refused : {e : Refusal} → check_buffer file ray column_bytes (length lent) ≡ Err e → ColumnPromised (Err e) lent
  unfolding check_buffer column_answer column_after bits_left bits_after
  column_refused e =
      let v = answer_refused (first_no (buffer_questions file ray column_bytes (length lent))) file e in
      column_promised _ lent (rw v) (rw v)

  pub column_made : {st : ℕ → ℕ → ℕ} (p : ℕ) (l : List ℕ) (bit : ℕ → ℕ) {part : Summary}
      → Agree (2 ^ exponent) st (ray_state (solid_of file) ray (2 ^ exponent))
      → ((t : ℕ) → t < 2 ^ exponent → bit t ≡ bit_of (solid_of file) ray (2 ^ exponent) t)
      → check_buffer file ray column_bytes (length lent) ≡ Ok part → p ≡ probe_count st exponent 0
      → l ≡ packed bit column_bytes ++ drop column_bytes lent → ColumnPromised (Ok p) l
  unfolding check_buffer column_answer column_after bits_left bits_after
  column_made p l bit agree same e probes bytes =
      let v = answer_accepted (first_no (buffer_questions file ray column_bytes (length lent))) file e in
      column_promised _ l (rw v (ap Ok (probes ∙ count_within agree exponent 0 (omega arith))))
      (rw v (bytes
      ∙ ap (λ (m : List ℕ). m ++ drop column_bytes lent)
      (packed_same bit (bit_of (solid_of file) ray (2 ^ exponent)) column_bytes (λ t h. same t h))))
