-- The reader of the first form: a check of a file with document 01's question 3, before document 02's P9.
use Rattle.std.specs.Prelude.{List, [], ◌∷◌, ◌++◌, ◌&&◌, ℕ, ◌%◌, leb, eqb, length}
use Rattle.exact.specs.Range.{between}
use Rattle.record.specs.Questions.{Question}
use Rattle.record.specs.declared.Refusal.TheVariants as no
use Rattle.part.specs.File.{iso, version, distance, marked, records, records_questions, nodes}
use Rattle.field.specs.Kernel.{quartic}
use Rattle.field.specs.Solid.{Solid}

-- 1 and 2: the length and the mark
unfoldable pub form_questions : List ℕ → List Question
form_questions file = (no.Length, between 24 65536 (length file)) ∷ (no.Mark, marked file) ∷ []

-- 4 to 11
unfoldable pub later_questions : List ℕ → List Question
later_questions file =
    (no.Distance, between 24 6144 (distance file) && eqb (distance file % 12) 0 && leb (distance file) (length file))
    ∷ (no.Iso, between 1 4096 (iso file))
    ∷ records_questions (records file) 0

-- document 01's 1 to 3, "Is the version 1?", and whatever it asks afterwards: document 01's question 6 knows the kinds 1 to 3 alone
unfoldable pub first_form : List ℕ → List Question → List Question
first_form file later = form_questions file ++ (no.Version, eqb (version file) 1) ∷ later

-- the check's questions before P9
abbrev pub first_questions : List ℕ → List Question
first_questions file = first_form file (later_questions file)

-- the solid that it read off a file: every point has degree 4
abbrev pub first_solid : List ℕ → Solid
first_solid file = record { kernel = quartic; iso = iso file; nodes = nodes file }
