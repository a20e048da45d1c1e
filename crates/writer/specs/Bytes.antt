-- The bytes of a part file, from its nodes, its iso-value and its version (document 01, "The part file"; document 02, P9): what record's Bytes and
-- Record and part's File read, the other way round.
use Rattle.std.specs.Prelude.{ℕ, suc, ◌+◌, ◌-◌, ◌*◌, ◌/◌, ◌%◌, ◌<◌, List, [], ◌∷◌, ◌++◌, length, ℤ, pos, negsuc, nat_abs}
use Rattle.record.specs.Bytes.{byte}
use Rattle.record.specs.declared.Node.{Node}
use Rattle.part.specs.File.{file_mark}

-- that the numbers of a list are bytes
abbrev pub Octets : List ℕ → Type 0
Octets file = (k : ℕ) → k < length file → byte file k < 256

-- ---- numbers, little-endian

-- 16 bits, unsigned
unfoldable pub u16_bytes : ℕ → List ℕ
u16_bytes n = n % 256 ∷ n / 256 % 256 ∷ []

-- 32 bits, unsigned
unfoldable pub u32_bytes : ℕ → List ℕ
u32_bytes n = u16_bytes (n % 65536) ++ u16_bytes (n / 65536)

-- two's complement in 16 bits
unfoldable pub bits16 : ℤ → ℕ
bits16 (pos n) = n
bits16 (negsuc n) = 65536 - suc n

-- 16 bits, signed
unfoldable pub i16_bytes : ℤ → List ℕ
i16_bytes z = u16_bytes (bits16 z)

-- ---- the file

-- a record: 12 bytes
unfoldable pub record_bytes : Node → List ℕ
record_bytes n =
    (nat_abs n.kind ∷ 0 ∷ [])
    ++ u16_bytes (nat_abs n.radius) ++ i16_bytes n.x ++ i16_bytes n.y ++ i16_bytes n.z ++ i16_bytes n.weight

-- the records, one after the other
unfoldable pub records_bytes : List Node → List ℕ
records_bytes [] = []
records_bytes (n ∷ later) = record_bytes n ++ records_bytes later

-- records and trailer of so many nodes, in bytes: the distance
unfoldable pub size : ℕ → ℕ
size count = 12 * count + 12

-- the trailer after so many records: iso-value, version, distance and mark
unfoldable pub trailer_bytes : ℕ → ℕ → ℕ → List ℕ
trailer_bytes count iso version = u16_bytes iso ++ u16_bytes version ++ u32_bytes (size count) ++ file_mark

-- records and trailer
unfoldable pub part_bytes : List Node → ℕ → ℕ → List ℕ
part_bytes nodes iso version = records_bytes nodes ++ trailer_bytes (length nodes) iso version
