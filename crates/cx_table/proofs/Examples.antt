-- The words on names and values, run.
use Rattle.std.proofs.Common.{◌≡◌, ℕ, [], ◌∷◌, Some, None, codes, refl}
use Rattle.cx_table.specs.NameTable.{Entries, names_of, index_of, value_of, with_entry, without_entry}

-- `b`, `a` and `ab`, in this order
abbrev three : Entries ℕ
three = (codes "b", 1) ∷ (codes "a", 2) ∷ (codes "ab", 3) ∷ []

names : names_of three ≡ codes "b" ∷ codes "a" ∷ codes "ab" ∷ []
names = refl

-- a name is found whole, by no beginning of it and by no longer one
value : value_of three (codes "a") ≡ Some 2
unfolding value_of
value = refl

last_value : value_of three (codes "ab") ≡ Some 3
unfolding value_of
last_value = refl

no_value : value_of three (codes "abc") ≡ None
unfolding value_of
no_value = refl

no_empty_name : value_of three [] ≡ None
unfolding value_of
no_empty_name = refl

index : index_of three (codes "a") ≡ Some 1
unfolding index_of
index = refl

no_index : index_of three (codes "c") ≡ None
unfolding index_of
no_index = refl

-- a name that is there keeps its place
replaced : with_entry (codes "a") 9 three ≡ (codes "b", 1) ∷ (codes "a", 9) ∷ (codes "ab", 3) ∷ []
unfolding with_entry
replaced = refl

-- another goes last
added : with_entry (codes "c") 9 three ≡ (codes "b", 1) ∷ (codes "a", 2) ∷ (codes "ab", 3) ∷ (codes "c", 9) ∷ []
unfolding with_entry
added = refl

-- the others keep their order
taken_out : without_entry (codes "b") three ≡ (codes "a", 2) ∷ (codes "ab", 3) ∷ []
unfolding without_entry
taken_out = refl

nothing_taken_out : without_entry (codes "c") three ≡ three
unfolding without_entry
nothing_taken_out = refl

back_at_the_end : with_entry (codes "b") 1 (without_entry (codes "b") three) ≡ (codes "a", 2) ∷ (codes "ab", 3) ∷ (codes "b", 1) ∷ []
unfolding with_entry without_entry
back_at_the_end = refl
