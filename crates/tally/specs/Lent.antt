-- The running totals as a host lends them: casts, probes and refusals, three numbers.
use Rattle.std.specs.Prelude.{List, [], ◌∷◌, ℕ, get_or}
use Rattle.tally.specs.declared.Totals.{Totals}

unfoldable pub totals_in : List ℕ → Totals
totals_in lent = record { casts = get_or lent 0 0; probes = get_or lent 1 0; refusals = get_or lent 2 0 }

abbrev pub totals_out : Totals → List ℕ
totals_out t = t.casts ∷ t.probes ∷ t.refusals ∷ []
