-- "Bounds at one whole-step place" (document 01, "Calls"): questions 1 to 12, then the bounds of the tree there.
use Rattle.std.specs.Prelude.{◌≡◌, List, [], ◌∷◌, ◌++◌, ℕ, Result, Ok, Err}
use Rattle.record.specs.Questions.{Question, first_no, Verdict}
use Rattle.record.specs.declared.Refusal.{Refusal}
use Rattle.record.specs.declared.Refusal.TheVariants as no
use Rattle.part.specs.File.{file_questions, nodes}
use Rattle.field.specs.Vectors.{Position}
use Rattle.field.specs.declared.Bounds.{Bounds}
use Rattle.field.specs.Ray.{constant_ray, at_start}
use Rattle.field.specs.Tree.{EachPoint}
use Rattle.field.specs.Solid.{solid_of}
use Rattle.field.specs.Field.{field_at}
use Rattle.field.specs.Bounds.{tree_bounds, Encloses}
use Rattle.field.specs.Extremes.{Extremes}
use Rattle.loading.specs.Loading.{position_in_range}

unfoldable pub place_questions : List ℕ → Position → List Question
place_questions file p = file_questions file ++ (no.Coordinates, position_in_range p) ∷ []

-- the bounds, or the refusal
abbrev pub BoundsAnswer : Type 0
BoundsAnswer = Result Bounds Refusal

unfoldable pub place_answer : Verdict → List ℕ → Position → BoundsAnswer
place_answer (Ok tt) file p = Ok (tree_bounds (solid_of file) (constant_ray p) at_start)
place_answer (Err refusal) file p = Err refusal

unfoldable pub place_bounds : List ℕ → Position → BoundsAnswer
place_bounds file p = place_answer (first_no (place_questions file p)) file p

-- bounds at a place of an accepted file: the tree's, made of each point's qlo and qhi, which are 65536 × the least and the greatest u there, rounded
-- down and up; they enclose the exact field there
pub record BoundsAt (file : List ℕ) (p : Position) (b : Bounds) : Type 0 where
  pub accepted : first_no (place_questions file p) ≡ Ok tt
  pub tree : b ≡ tree_bounds (solid_of file) (constant_ray p) at_start
  pub extremes : EachPoint (λ c. Extremes (constant_ray p) c at_start) (nodes file)
  pub encloses : Encloses b (field_at (solid_of file) (constant_ray p) 0 1)

-- what each case of an answer says: that its refusal is the first no's; or the bounds
unfoldable pub PlaceSays : List ℕ → Position → BoundsAnswer → Type 0
PlaceSays file p (Err refusal) = first_no (place_questions file p) ≡ Err refusal
PlaceSays file p (Ok b) = BoundsAt file p b
