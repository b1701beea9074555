use Rattle.std.proofs.Common.{◌≡◌, ℕ, List, take, drop, arith, refl}
use Rattle.std.proofs.lemmas.List.{length-drop, take_all}
use Rattle.sha2.specs.Sha256.{sha256}
use Rattle.sha2.proofs.Facts256.{length-sha256}
use Rattle.cx_table.specs.NameKey.{key_of}
use Rattle.cx_table.proofs.key.NameKey.of.Goals as goal

all_of : (m : List ℕ) → take 24 (drop 8 (sha256 m)) ≡ drop 8 (sha256 m)
all_of m = take_all 24 (drop 8 (sha256 m)) (omega (arith, length-drop 8 (sha256 m), length-sha256 m))

pub returns : goal.returns
unfolding key_of
returns c = rw (c.first_word.ensures, c.first_word-2.ensures, c.digest-digest.ensures, all_of c.args.bytes.now) refl
