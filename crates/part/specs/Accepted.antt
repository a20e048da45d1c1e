-- What is so of an accepted file, as facts: the later crates rest on these.
use Rattle.std.specs.Prelude.{ℕ, ◌%◌, ◌≤◌, ◌≡◌, List, [], ◌∷◌, length}
use Rattle.record.specs.Nodes.{held_after}
use Rattle.record.specs.Ranges.{Ready}
use Rattle.record.specs.declared.Node.{Node}
use Rattle.part.specs.File.{iso, version, distance, count, nodes}

-- the trailer's numbers (questions 1, 3, 4 and 5)
pub record Trailer (file : List ℕ) : Type 0 where
  pub long : 24 ≤ length file
  pub short : length file ≤ 65536
  pub version_low : 1 ≤ version file
  pub version_high : version file ≤ 2
  pub distance_low : 24 ≤ distance file
  pub distance_high : distance file ≤ 6144
  pub distance-whole : distance file % 12 ≡ 0
  pub distance_within : distance file ≤ length file
  pub iso_low : 1 ≤ iso file
  pub iso_high : iso file ≤ 4096

-- each node finds what it needs, and exactly one value is held at the end
unfoldable pub WellFormed : List Node → ℕ → Type 0
WellFormed [] held = held ≡ 1
WellFormed (n ∷ later) held = Ready n held × WellFormed later (held_after n held)

-- the nodes of one tree
pub record Tree (ns : List Node) : Type 0 where
  pub some : 1 ≤ length ns
  pub few : length ns ≤ 511
  pub well_formed : WellFormed ns 0

pub record AcceptedFile (file : List ℕ) : Type 0 where
  pub trailer : Trailer file
  pub counted : length (nodes file) ≡ count file
  pub tree : Tree (nodes file)
