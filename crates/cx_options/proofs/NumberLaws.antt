-- Laws of numbers.
use Rattle.std.proofs.Common.{◌≡◌, ℕ, zero, suc, ◌+◌, ◌*◌, ◌<◌, ◌≤◌, List, ◌∷◌, true, length, ap, add-one, drop, get_or, drop-cons, arith}
use Rattle.std.specs.Prelude.{fold}
use Rattle.std.specs.List.{list_all}
use Rattle.std.proofs.lemmas.Bool.Decides.{nat_tests}
use Rattle.cx_options.specs.Arguments.{is_digit, is_number}

-- what so many digits stay below
unfoldable pub limit : ℕ → ℕ
limit zero = 1
limit (suc n) = 10 * limit n

pub limit_more : (i n d : ℕ) → n < limit i → d < 10 → 10 * n + d < limit (i + 1)
unfolding limit
limit_more i n d h small = let e : limit (i + 1) ≡ 10 * limit i = ap limit (add-one i) in omega arith

pub limit_four : (i : ℕ) → i < 4 → limit i ≤ 1000
unfolding limit
limit_four zero h = omega arith
limit_four (suc zero) h = omega arith
limit_four (suc (suc zero)) h = omega arith
limit_four (suc (suc (suc zero))) h = omega arith
limit_four (suc (suc (suc (suc n)))) h = absurd (omega arith)

pub number_parts : (text : List ℕ) → is_number text ≡ true → (list_all is_digit text ≡ true) × (length text ≤ 4)
unfolding is_number
number_parts text e = grind (arith, nat_tests)

digits_cons : (b : ℕ) (bs : List ℕ) → list_all is_digit (b ∷ bs) ≡ true → (48 ≤ b) × (b ≤ 57) × (list_all is_digit bs ≡ true)
digits_cons b bs e = grind (arith, nat_tests)

-- the digits from an index on: the first of them, and the others
pub digit_at : (text : List ℕ) (i d : ℕ) → i < length text → list_all is_digit (drop i text) ≡ true
    → (48 ≤ get_or text i d) × (get_or text i d ≤ 57) × (list_all is_digit (drop (i + 1) text) ≡ true)
digit_at text i d h e =
    let cons : drop i text ≡ get_or text i d ∷ drop (suc i) text = drop-cons text i d h in
    let all : list_all is_digit (get_or text i d ∷ drop (suc i) text) ≡ true = rw cons at e in
    rw (add-one i) (digits_cons (get_or text i d) (drop (suc i) text) all)

-- the value of the digits from an index on, after those before it
pub value_at : (f : ℕ → ℕ → ℕ) (text : List ℕ) (i n d : ℕ) → i < length text → fold f n (drop i text) ≡ fold f (f n (get_or text i d)) (drop (i + 1) text)
value_at f text i n d h = rw (add-one i, drop-cons text i d h)
