-- Numbers in a file's bytes, little-endian (document 01, "The part file"). A file is the list of its bytes; past its end a byte reads as 0.
use Rattle.std.specs.Prelude.{ℕ, ◌+◌, ◌*◌, List, [], ◌∷◌, Bool, true, cond, ◌&&◌, get_or, replicate, ℤ, pos, ◌-ℤ◌, ltb, eqb}

-- the byte at a place
abbrev pub byte : List ℕ → ℕ → ℕ
byte file at = get_or file at 0

-- 16 bits, unsigned
unfoldable pub u16 : List ℕ → ℕ → ℕ
u16 file at = byte file at + 256 * byte file (at + 1)

-- 32 bits, unsigned
unfoldable pub u32 : List ℕ → ℕ → ℕ
u32 file at = u16 file at + 65536 * u16 file (at + 2)

-- 16 bits, signed: two's complement
unfoldable pub i16 : List ℕ → ℕ → ℤ
i16 file at = cond (ltb (u16 file at) 32768) (pos (u16 file at)) (pos (u16 file at) -ℤ pos 65536)

-- are the bytes from a place on these?
unfoldable pub has_bytes : List ℕ → ℕ → List ℕ → Bool
has_bytes file at [] = true
has_bytes file at (b ∷ bytes) = eqb (byte file at) b && has_bytes file (at + 1) bytes

-- are n bytes zero, from a place on?
unfoldable pub zeros : List ℕ → ℕ → ℕ → Bool
zeros file at n = has_bytes file at (replicate n 0)
