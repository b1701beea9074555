-- The key that the names of a source are hashed with.
use Rattle.std.specs.Prelude.{ℕ, List, drop}
use Rattle.std.specs.Int.{w64, from_le_bytes}
use Rattle.sha2.specs.Sha256.{sha256}
use Rattle.cx_table.specs.declared.key.NameKey.{NameKey}

-- the first 128 bits of the SHA-256 of these bytes (FIPS 180-4), as two words of 64 bits, of each
-- the lowest byte first
unfoldable pub key_of : List ℕ → NameKey
key_of bytes = record {
  low = from_le_bytes w64 (sha256 bytes);
  high = from_le_bytes w64 (drop 8 (sha256 bytes));
}
