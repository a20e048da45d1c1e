-- The trailer's numbers read back, whatever stands before it.
use Prim.Native.Nat.{ℕ, ◌+◌, ◌*◌, ◌≤◌, ◌<◌}
use native.Mathlib.Omega.{arith}
use mathlib.Core.Path.{◌≡◌, refl, ◌∙◌}
use mathlib.Core.List.{List, ◌++◌}
use mathlib.Core.Bool.{true}
use lib.ListN.{length}
use Rattle.record.specs.Bytes.{u16, u32, has_bytes}
use Rattle.part.specs.File.{file_mark, iso, version, distance, marked}
use Rattle.part.proofs.Leading.{u16_moved, u32_moved, has_bytes_moved, back}
use Rattle.writer.specs.Bytes.{u16_bytes, u32_bytes, size, trailer_bytes}
use Rattle.writer.proofs.Numbers.{u16_back, u32_back}

pub length_trailer : (count i v : ℕ) → length (trailer_bytes count i v) ≡ 12
unfolding trailer_bytes u16_bytes u32_bytes
length_trailer count i v = refl

module _ (body : List ℕ) (count i v : ℕ) where
  pub iso_back : i < 65536 → iso (body ++ trailer_bytes count i v) ≡ i
  unfolding iso u16 trailer_bytes u16_bytes u32_bytes
  iso_back h = rw (back body (trailer_bytes count i v) 12 (omega arith)) (u16_moved body (trailer_bytes count i v) 0 ∙ u16_back i h)

  pub version_back : v < 65536 → version (body ++ trailer_bytes count i v) ≡ v
  unfolding version u16 trailer_bytes u16_bytes u32_bytes
  version_back h = rw (back body (trailer_bytes count i v) 10 (omega arith)) (u16_moved body (trailer_bytes count i v) 2 ∙ u16_back v h)

  pub distance_back : count ≤ 511 → distance (body ++ trailer_bytes count i v) ≡ size count
  unfolding distance u32 u16 size trailer_bytes u16_bytes u32_bytes
  distance_back h =
      rw (back body (trailer_bytes count i v) 8 (omega arith))
      (u32_moved body (trailer_bytes count i v) 4 ∙ u32_back (12 * count + 12) (omega arith))

  pub marked_back : marked (body ++ trailer_bytes count i v) ≡ true
  unfolding marked has_bytes trailer_bytes u16_bytes u32_bytes
  marked_back = rw (back body (trailer_bytes count i v) 4 (omega arith)) (has_bytes_moved body (trailer_bytes count i v) 8 file_mark)
