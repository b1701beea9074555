-- The members of a literal, as the code passes them.
use Rattle.std.proofs.Common.{◌≡◌, ◌≢◌, ℕ, List, [], ◌∷◌, ◌++◌, Option, Some, None, Bool, true, false, ◌==◌, refl, sym, ap, ◌∙◌, subst, arith, inl, inr, ⊎_elim, cond, All, flat_map, append_assoc}
use Rattle.std.proofs.lemmas.Bool.{cond-true, cond-false, cases_Bool, eqb-true}
use Rattle.std.proofs.lemmas.Bool.Decides.{nat_tests}
use Rattle.std.proofs.lemmas.List.Elements.{All-nil, All-cons, All-head, All-tail}
use Rattle.cx_lex.specs.Elements.{AreMembers, IsMember}
use Rattle.cx_lex.specs.Shapes.Quotes.{within_quotes}

pub within_end : (q : ℕ) (p : Bool) → within_quotes q p [] ≡ Some p
unfolding within_quotes
within_end q p = refl

pub within_paired : (q b : ℕ) (bs : List ℕ) → within_quotes q true (b ∷ bs) ≡ within_quotes q false bs
unfolding within_quotes
within_paired q b bs = refl

pub within_more : (q b : ℕ) (bs : List ℕ) → within_quotes q false (b ∷ bs) ≡ cond (b == q) None (within_quotes q (b == 92) bs)
unfolding within_quotes
within_more q b bs = refl

-- what was read after a quote, by whether its last byte is a backslash that pairs with nothing
abbrev pub ReadMembers : ℕ → List ℕ → Bool → Type 0
ReadMembers q bs false = AreMembers q bs
ReadMembers q bs true = (members : List ℕ) × (bs ≡ members ++ 92 ∷ []) × AreMembers q members

-- a member more in front
more_members : (q : ℕ) (m bs : List ℕ) → IsMember q m → AreMembers q bs → AreMembers q (m ++ bs)
more_members q m bs h k = (m ∷ k.0, All-cons (IsMember q) m k.0 h k.1, ap (λ t. m ++ t) k.2)

more_read : (q : ℕ) (m bs : List ℕ) (r : Bool) → IsMember q m → ReadMembers q bs r → ReadMembers q (m ++ bs) r
more_read q m bs false h k = more_members q m bs h k
more_read q m bs true h k = (m ++ k.0, ap (λ t. m ++ t) k.1 ∙ sym (append_assoc m k.0 (92 ∷ [])), more_members q m k.0 h k.2)

differ : (b c : ℕ) → (b == c) ≡ false → b ≢ c
differ b c e = grind (arith, nat_tests)

none_some : (r : Bool) (o : Option Bool) → o ≡ None → o ≡ Some r → ⊥
none_some r o e h = cc

same_flag : (p r : Bool) → Some p ≡ Some r → p ≡ r
same_flag p r e = cc

-- by the first byte: a quote is none, a backslash has a byte after it or is the last
pub within_read : (q : ℕ) (bs : List ℕ) (r : Bool) → within_quotes q false bs ≡ Some r → ReadMembers q bs r
within_read q [] r h =
    let e : false ≡ r = same_flag false r (sym (within_end q false) ∙ h) in
    subst (ReadMembers q []) e ([], All-nil (IsMember q), refl)
within_read q (b ∷ []) r h =
    ⊎_elim
    (λ (e : (b == q) ≡ true). absurd (none_some r (within_quotes q false (b ∷ [])) (within_more q b [] ∙ cond-true _ _ _ e) h))
    (λ (e : (b == q) ≡ false).
    let f : (b == 92) ≡ r = same_flag (b == 92) r (sym (within_end q (b == 92)) ∙ sym (cond-false _ _ _ e) ∙ sym (within_more q b []) ∙ h) in
    subst (ReadMembers q (b ∷ [])) f (⊎_elim
    (λ (g : (b == 92) ≡ true). subst (ReadMembers q (b ∷ [])) (sym g) ([], ap (λ t. t ∷ []) (eqb-true b 92 g), ([], All-nil (IsMember q), refl)))
    (λ (g : (b == 92) ≡ false). subst (ReadMembers q (b ∷ [])) (sym g)
    (more_members q (b ∷ []) [] (inl (b, refl, differ b q e, differ b 92 g)) ([], All-nil (IsMember q), refl)))
    (cases_Bool (b == 92))))
    (cases_Bool (b == q))
within_read q (b ∷ c ∷ cs) r h =
    ⊎_elim
    (λ (e : (b == q) ≡ true). absurd (none_some r (within_quotes q false (b ∷ c ∷ cs)) (within_more q b (c ∷ cs) ∙ cond-true _ _ _ e) h))
    (λ (e : (b == q) ≡ false).
    let f : within_quotes q (b == 92) (c ∷ cs) ≡ Some r = sym (cond-false _ _ _ e) ∙ sym (within_more q b (c ∷ cs)) ∙ h in
    ⊎_elim
    (λ (g : (b == 92) ≡ true).
    more_read q (b ∷ c ∷ []) cs r (inr (c, ap (λ t. t ∷ c ∷ []) (eqb-true b 92 g)))
    (within_read q cs r (sym (within_paired q c cs) ∙ ap (λ t. within_quotes q t (c ∷ cs)) (sym g) ∙ f)))
    (λ (g : (b == 92) ≡ false).
    more_read q (b ∷ []) (c ∷ cs) r (inl (b, refl, differ b q e, differ b 92 g))
    (within_read q (c ∷ cs) r (ap (λ t. within_quotes q t (c ∷ cs)) (sym g) ∙ f)))
    (cases_Bool (b == 92)))
    (cases_Bool (b == q))

other_byte : (b c : ℕ) → b ≢ c → (b == c) ≡ false
other_byte b c e = grind (arith, nat_tests)

-- a member is passed
member_passed : (q : ℕ) (m rest : List ℕ) → (92 == q) ≡ false → IsMember q m → within_quotes q false (m ++ rest) ≡ within_quotes q false rest
member_passed q m rest n (inl h) =
    ap (λ t. within_quotes q false (t ++ rest)) h.1 ∙ within_more q h.0 rest ∙ cond-false _ _ _ (other_byte h.0 q h.2)
    ∙ ap (λ p. within_quotes q p rest) (other_byte h.0 92 h.3)
member_passed q m rest n (inr h) =
    ap (λ t. within_quotes q false (t ++ rest)) h.1 ∙ within_more q 92 (h.0 ∷ rest) ∙ cond-false _ _ _ n ∙ within_paired q h.0 rest

members_passed : (q : ℕ) (ms : List (List ℕ)) (rest : List ℕ) → (92 == q) ≡ false → All (IsMember q) ms
    → within_quotes q false (flat_map (λ m. m) ms ++ rest) ≡ within_quotes q false rest
members_passed q [] rest n h = refl
members_passed q (m ∷ ms) rest n h =
    ap (within_quotes q false) (append_assoc m (flat_map (λ t. t) ms) rest)
    ∙ member_passed q m (flat_map (λ t. t) ms ++ rest) n (All-head (IsMember q) m ms h)
    ∙ members_passed q ms rest n (All-tail (IsMember q) m ms h)

-- members are read to their end
pub members_within : (q : ℕ) (bs rest : List ℕ) → (92 == q) ≡ false → AreMembers q bs → within_quotes q false (bs ++ rest) ≡ within_quotes q false rest
members_within q bs rest n h = ap (λ t. within_quotes q false (t ++ rest)) h.2 ∙ members_passed q h.0 rest n h.1
