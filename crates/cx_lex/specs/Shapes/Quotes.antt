-- How the code passes the members of a literal: joined to `AreMembers` of Elements by `within_read`
-- and `members_within` of proofs/MemberLaws.
use Rattle.std.specs.Prelude.{ℕ, List, [], ◌∷◌, Bool, true, false, ◌==◌, Option, Some, None, if◌then◌else◌}

-- After a quote: None where a quote ends these bytes, else whether the last of them is a backslash
-- that pairs with the byte after it. The flag tells whether a backslash stands before them.
unfoldable pub within_quotes : ℕ → Bool → List ℕ → Option Bool
within_quotes quote paired [] = Some paired
within_quotes quote true (b ∷ bs) = within_quotes quote false bs
within_quotes quote false (b ∷ bs) =
    if b == quote then None else within_quotes quote (b == 92) bs
