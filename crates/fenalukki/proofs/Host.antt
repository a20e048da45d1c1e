-- From what a call promises of its answer to what the host gets with the answer's number, for a place or a ray that is the host's; and what is left
-- in the totals that it lent.
use mathlib.Core.Path.{◌≡◌, ap, subst, sym, ◌∙◌}
use mathlib.Core.List.{List}
use Prim.Native.Nat.{ℕ, ◌^◌}
use lib.IntN.{ℤ}
use lib.ListN.{length}
use Rattle.part.specs.File.{Checked}
use Rattle.part.specs.File.{check_file, Says}
use Rattle.field.specs.Vectors.{Position}
use Rattle.field.specs.Vectors.{Ray}
use Rattle.bounds.specs.Place.{BoundsAnswer}
use Rattle.bounds.specs.Place.{place_bounds, PlaceSays}
use Rattle.cast.specs.Column.{ColumnAnswer}
use Rattle.halving.specs.Answers.{CastAnswer, HitAnswer, cast_number, hit_number}
use Rattle.cast.specs.Column.{column_number}
use Rattle.cast.specs.Ticks.{exponent}
use Rattle.cast.specs.Calls.{full_cast, first_hit, column_answer}
use Rattle.cast.proofs.Calls.{CastPromised, HitPromised, ColumnPromised}
use Rattle.march.specs.Calls.{marching_cast}
use Rattle.march.proofs.Calls.{MarchPromised}
use Rattle.view.specs.Ray.{ViewRay}
use Rattle.view.specs.Call.{view_of, viewer_ticks, viewer_first_hit}
use Rattle.view.specs.Demands.{ViewDemands}
use Rattle.tally.specs.Counts.{Tally}
use Rattle.tally.specs.Saved.{Saved}
use Rattle.tally.specs.Counts.{cast_tally, hit_tally, column_tally, view_tally}
use Rattle.tally.specs.Saved.{read_saved, SavedSays}
use Rattle.tally.proofs.Counts.{view_tally_lem}
use Rattle.nodes.specs.Numbers.{loaded}
use Rattle.writer.specs.Writer.{Written}
use Rattle.writer.specs.Writer.{write_answer, buffer_left, WriteSays, Returned}
use Rattle.numbers.specs.Numbers.{check_number, bounds_number, bounds_left, write_number, lent_after, saved_number, saved_left}
use Rattle.numbers.proofs.Numbers.{check_told, bounds_told, write_told, saved_told}
use Rattle.fenalukki.specs.Host.{HostCast, HostMarch, HostHit, HostColumn, HostCheck, HostBounds, HostView, HostRead, HostWrite, HostRestore}

-- what is left in the lent totals, of an answer a that is b
left_is : {A : Type 0} (tally_of : A → Tally) (totals : List ℕ) {a b : A} {tally : Tally} {left : List ℕ}
    → a ≡ b → tally ≡ tally_of a → left ≡ lent_after tally totals → left ≡ lent_after (tally_of b) totals
left_is tally_of totals same t is = is ∙ ap (λ (t : Tally). lent_after t totals) (t ∙ ap tally_of same)

module _ (file : List ℕ) {ray hosts : Ray} (same : ray ≡ hosts) where
  pub host_cast : (budget : ℕ) (lent : List ℕ) (w : CastAnswer) (after : List ℕ) {number : ℕ}
      → CastPromised file ray budget lent w after → number ≡ cast_number w → HostCast file hosts budget lent number after
  host_cast budget lent w after {number} (answer, (bytes, demands)) is =
      subst (λ (ray : Ray). HostCast file ray budget lent number after) same
      (record { number_is = is ∙ ap cast_number answer; bytes = bytes; demands = rw (← answer) demands })

  pub host_march : (budget : ℕ) (lent : List ℕ) (w : CastAnswer) (after : List ℕ) {number : ℕ}
      → MarchPromised file ray budget lent w after → number ≡ cast_number w → HostMarch file hosts budget lent number after
  host_march budget lent w after {number} (answer, (bytes, demands)) is =
      subst (λ (ray : Ray). HostMarch file ray budget lent number after) same
      (record { number_is = is ∙ ap cast_number answer; bytes = bytes; demands = rw (← answer) demands })

  pub host_hit : (budget : ℕ) (f : HitAnswer) {number : ℕ} → HitPromised file ray budget f → number ≡ hit_number f → HostHit file hosts budget number
  host_hit budget f {number} (answer, demands) is =
      subst (λ (ray : Ray). HostHit file ray budget number) same
      (record { number_is = is ∙ ap hit_number answer; demands = rw (← answer) demands })

  pub host_column : (lent : List ℕ) (w : ColumnAnswer) (after : List ℕ) {number : ℕ}
      → ColumnPromised file ray lent w after → number ≡ column_number w → HostColumn file hosts lent number after
  host_column lent w after {number} (answer, (bytes, demands)) is =
      subst (λ (ray : Ray). HostColumn file ray lent number after) same
      (record { number_is = is ∙ ap column_number answer; bytes = bytes; demands = rw (← answer) demands })

  module _ (totals : List ℕ) {left : List ℕ} {tally : Tally} (is : left ≡ lent_after tally totals) where
    pub cast_counted : (budget : ℕ) (lent : List ℕ) (w : CastAnswer) {after : List ℕ}
        → CastPromised file ray budget lent w after → tally ≡ cast_tally w
        → left ≡ lent_after (cast_tally (full_cast file hosts budget (length lent))) totals
    cast_counted budget lent w p t = left_is cast_tally totals (p.0 ∙ ap (λ (ray : Ray). full_cast file ray budget (length lent)) same) t is

    pub march-counted : (budget : ℕ) (lent : List ℕ) (w : CastAnswer) {after : List ℕ}
        → MarchPromised file ray budget lent w after → tally ≡ cast_tally w
        → left ≡ lent_after (cast_tally (marching_cast file hosts budget (length lent))) totals
    march-counted budget lent w p t = left_is cast_tally totals (p.0 ∙ ap (λ (ray : Ray). marching_cast file ray budget (length lent)) same) t is

    pub hit-counted : (budget : ℕ) (f : HitAnswer) → HitPromised file ray budget f → tally ≡ hit_tally f
        → left ≡ lent_after (hit_tally (first_hit file hosts budget)) totals
    hit-counted budget f p t = left_is hit_tally totals (p.0 ∙ ap (λ (ray : Ray). first_hit file ray budget) same) t is

    pub column_counted : (lent : List ℕ) (w : ColumnAnswer) {after : List ℕ} → ColumnPromised file ray lent w after → tally ≡ column_tally w
        → left ≡ lent_after (column_tally (column_answer file hosts (length lent))) totals
    column_counted lent w p t = left_is column_tally totals (p.0 ∙ ap (λ (ray : Ray). column_answer file ray (length lent)) same) t is

module _ (file : List ℕ) where
  pub host_check : (a : Checked) {number : ℕ} → (a ≡ check_file file) × Says file a → number ≡ check_number a → HostCheck file number
  host_check a (answer, says) is =
      record { number_is = is ∙ ap check_number answer; told = rw is (check_told file a says); says = rw (← answer) says }

  pub host_read : (a : Checked) (lent : List ℤ) {number : ℕ} {after : List ℤ}
      → (a ≡ check_file file) × (Says file a × (after ≡ loaded file lent)) → number ≡ check_number a → HostRead file lent number after
  host_read a lent (answer, (says, numbers)) is =
      record { number_is = is ∙ ap check_number answer; numbers = numbers; told = rw is (check_told file a says); says = rw (← answer) says }

  pub host_bounds : {p place : Position} → p ≡ place → (a : BoundsAnswer) (lent : List ℤ) {number : ℕ} {after : List ℤ}
      → (a ≡ place_bounds file p) × PlaceSays file p a → (number ≡ bounds_number a) × (after ≡ bounds_left a lent)
      → HostBounds file place lent number after
  host_bounds {p} same a lent {number} {after} (answer, says) (is, left) =
      subst (λ (p : Position). HostBounds file p lent number after) same
      (record {
        number_is = is ∙ ap bounds_number answer;
        bounds = left ∙ rw answer;
        told = rw is (bounds_told file p a says);
        says = rw (← answer) says;
      })

  module _ {ray hosts : ViewRay} (same : ray ≡ hosts) (budget : ℕ) (f : HitAnswer) (answer : f ≡ viewer_ticks exponent file ray budget) where
    pub host_view : {number : ℕ} → ViewDemands file ray exponent budget (view_of (2 ^ exponent) f) → number ≡ hit_number f
        → HostView file hosts budget number
    unfolding viewer_first_hit
    host_view {number} demands is =
        subst (λ (ray : ViewRay). HostView file ray budget number) same
        (record { number_is = is ∙ ap hit_number answer; demands = rw (← answer) demands })

    pub view_counted : (totals : List ℕ) {left : List ℕ} {tally : Tally} → left ≡ lent_after tally totals → tally ≡ hit_tally f
        → left ≡ lent_after (view_tally (viewer_first_hit file hosts budget)) totals
    unfolding viewer_first_hit
    view_counted totals is t =
        left_is view_tally totals (ap (view_of (2 ^ exponent)) (answer ∙ ap (λ (ray : ViewRay). viewer_ticks exponent file ray budget) same))
        (t ∙ sym (view_tally_lem (2 ^ exponent) f)) is

pub host_write : (l : List ℤ) (iso version : ℕ) (lent : List ℕ) (place : ℕ) (a : Written) {number : ℕ} {after : List ℕ}
    → (a ≡ write_answer l iso version (length lent) place)
    × ((after ≡ buffer_left l iso version lent place) × (WriteSays l iso version lent place a after × Returned l iso version lent place a after))
    → number ≡ write_number a → HostWrite l iso version lent place number after
host_write l iso version lent place a {number} {after} (answer, (bytes, (says, returned))) is = record {
  number_is = is ∙ ap write_number answer;
  bytes = bytes;
  told = rw is (write_told l iso version lent place after a says);
  says = rw (← answer) says;
  returned = rw (← answer) returned;
}

pub host_restore : (saved : List ℕ) (a : Saved) (lent : List ℕ) {number : ℕ} {after : List ℕ}
    → (a ≡ read_saved saved) × SavedSays saved a → after ≡ saved_left a lent → number ≡ saved_number a → HostRestore saved lent number after
host_restore saved a lent (answer, says) left is = record {
  number_is = is ∙ ap saved_number answer;
  totals = left ∙ rw answer;
  told = rw is (saved_told saved a says);
  says = rw (← answer) says;
}
