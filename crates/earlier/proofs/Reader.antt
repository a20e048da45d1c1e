-- The reader of the first form (document 02, P9): it refuses version 2 by 3 (`second_refused`), what it answers of a file, but 3, the check answers
-- still (`read_as_before`), and the solid of a file that it accepts is the one that it read (`same_solid`).
use Rattle.std.specs.Prelude.{Ok, Err}
use mathlib.Core.Path.{◌≡◌, refl, sym, ap, ◌∙◌}
use mathlib.Core.List.{List, ◌∷◌, ◌++◌}
use Prim.Native.Nat.{ℕ}
use lib.Dec.{eqb}
use borrow.Author.Tests.{eqb-true}
use Rattle.record.specs.Questions.{Question, first_no}
use Rattle.record.proofs.Questions.{no_is_not_yes, all_yes, yes_append}
use Rattle.record.specs.declared.Refusal.TheVariants as no
use Rattle.part.specs.File.{version, version_known, trailer_questions, file_questions}
use Rattle.field.specs.Solid.{kernel_of, solid_of}
use Rattle.earlier.specs.Reader.{form_questions, later_questions, first_form, first_questions, first_solid}
use Rattle.earlier.proofs.Questions.{same_verdict, decides}

module _ (file : List ℕ) where
  -- the check's questions, with theirs
  now_are : file_questions file ≡ form_questions file ++ (no.Version, version_known (version file)) ∷ later_questions file
  unfolding file_questions trailer_questions form_questions later_questions
  now_are = refl

  -- "A reader of the first form refuses version 2 by its number 3": every file that passes 1 and 2
  pub second_refused : version file ≡ 2 → first_no (form_questions file) ≡ Ok tt → (later : List Question)
      → first_no (first_form file later) ≡ Err no.Version
  unfolding first_form
  second_refused v passes later = rw v (decides (form_questions file) no.Version later passes)

  -- version 1 "is read as before", and so is whatever it refused with another number
  pub read_as_before : (first_no (first_questions file) ≡ Err no.Version → ⊥) → first_no (file_questions file) ≡ first_no (first_questions file)
  unfolding first_form
  read_as_before not-3 =
      ap first_no now_are
      ∙ same_verdict (form_questions file) no.Version (later_questions file) (eqb (version file) 1) (version_known (version file))
      (λ e. rw (eqb-true (version file) 1 e)) not-3

  module _ (accepted : first_no (first_questions file) ≡ Ok tt) where
    first_version : version file ≡ 1
    unfolding first_form
    first_version =
        let q = (yes_append (form_questions file) ((no.Version, eqb (version file) 1) ∷ later_questions file) accepted).1 in
        eqb-true (version file) 1 (all_yes ((no.Version, eqb (version file) 1) ∷ later_questions file) q 0)

    pub same_solid : (first_no (file_questions file) ≡ Ok tt) × (solid_of file ≡ first_solid file)
    unfolding kernel_of
    same_solid = (read_as_before (λ e. no_is_not_yes (sym e ∙ accepted)) ∙ accepted, rw first_version)
