-- The end of an item is one, and nothing is lost at it.
use Rattle.std.proofs.Common.{◌≡◌, ℕ, ◌+◌, length, List, [], ◌∷◌, ◌++◌, Bool, All, refl, sym, ap, ap₂, ◌∙◌, subst}
use Rattle.std.proofs.lemmas.List.{append_assoc}
use Rattle.std.proofs.lemmas.List.Elements.{All-head, All-tail}
use Rattle.cx_syntax_tree.specs.declared.terminals.Punctuator.TheVariants as mark
use Rattle.cx_items.specs.declared.outline.PartKind.TheVariants as part
use Rattle.cx_items.specs.Brackets.{Part, tokens_of}
use Rattle.cx_items.specs.Cutting.{EndsInSemicolon, Ends, HasWordBehind, IsGroup, IsItem, AreStarts, IsMark, IsOfRun, IsOldStyle, an_item, no_end, no_items, at_body, at_semicolon, before, further, later, old_style, plain}
use Rattle.cx_items.proofs.KindLaws.{is_round, is_semicolon}

pub ends_whole : {parts front rest : List Part} → Ends parts front rest → parts ≡ front ++ rest
ends_whole (at_semicolon h) = refl
ends_whole (at_body h) = refl
ends_whole (later {x} ns nb e) = ap (λ l. x ∷ l) (ends_whole e)

-- one end
pub ends_one : {parts f r g s : List Part} → Ends parts f r → Ends parts g s → (f ≡ g) × (r ≡ s)
ends_one (at_semicolon h) (at_semicolon k) = (refl, refl)
ends_one (at_semicolon {x} h) (at_body k) = absurd (not_round x h k.0)
  where
    not_round : (x : Part) → IsMark mark.Semicolon x → IsGroup mark.OpenRound x → ⊥
    not_round x h k = let e : part.Semicolon ≡ part.Round = sym (is_semicolon x h) ∙ is_round x k in absurd cc
ends_one (at_semicolon h) (later ns nb e) = absurd (ns h)
ends_one (at_body {x} h) (at_semicolon k) = absurd (not_round x k h.0)
  where
    not_round : (x : Part) → IsMark mark.Semicolon x → IsGroup mark.OpenRound x → ⊥
    not_round x h k = let e : part.Semicolon ≡ part.Round = sym (is_semicolon x h) ∙ is_round x k in absurd cc
ends_one (at_body h) (at_body k) = (refl, refl)
ends_one (at_body h) (later ns nb e) = absurd (nb h)
ends_one (later ns nb e) (at_semicolon k) = absurd (ns k)
ends_one (later ns nb e) (at_body k) = absurd (nb k)
ends_one (later {x} ns nb e) (later ms mb f) =
    let one = ends_one e f in (ap (λ l. x ∷ l) one.0, one.1)

-- the front of an item has a part
pub some_front : {parts rest : List Part} → Ends parts [] rest → ⊥
some_front h = elim h [ ]

-- the front begins with the first part
pub same_first : {x : Part} {parts front rest : List Part} → Ends (x ∷ parts) front rest
    → (more : List Part) × (front ≡ x ∷ more)
same_first (at_semicolon h) = ([], refl)
same_first (at_body {x} {y} h) = (y ∷ [], refl)
same_first (later {x} {ts} {front} ns nb e) = (front, refl)

pub no_word : HasWordBehind [] → ⊥
no_word h = elim h [ ]

pub no_word_behind : {x : Part} → HasWordBehind (x ∷ []) → ⊥
no_word_behind (further h) = no_word h

-- an end in ";" stays behind other parts
pub ends_behind : (xs : List Part) {ys : List Part} → EndsInSemicolon ys → EndsInSemicolon (xs ++ ys)
ends_behind [] h = h
ends_behind (x ∷ xs) h = before (ends_behind xs h)

pub no_end_of_none : EndsInSemicolon [] → ⊥
no_end_of_none h = elim h [ ]

-- .. and is that of what stands last
pub ends_last : (xs : List Part) (y : Part) (ys : List Part) → EndsInSemicolon (xs ++ y ∷ ys) → EndsInSemicolon (y ∷ ys)
ends_last [] y ys h = h
ends_last (x ∷ []) y ys (before h) = h
ends_last (x ∷ z ∷ xs) y ys (before h) = ends_last (z ∷ xs) y ys h

old_whole : {parts front rest : List Part} → IsOldStyle parts front rest → parts ≡ front ++ rest
old_whole {parts} {front} {rest} o =
    ends_whole o.ends ∙ sym (append_assoc o.head o.runs (o.body ∷ rest))
    ∙ sym (append_assoc (o.head ++ o.runs) (o.body ∷ []) rest) ∙ ap (λ l. l ++ rest) (sym o.whole)

-- no part is lost or told twice
pub item_whole : {parts front rest : List Part} → IsItem parts front rest → parts ≡ front ++ rest
item_whole (old_style o) = old_whole o
item_whole (plain e lacks) = ends_whole e

-- ---- one item

in_two : (a b : List Part) (x y : Part) (r s : List Part) → IsGroup mark.OpenCurly x → IsGroup mark.OpenCurly y
    → All IsOfRun a → All IsOfRun b → a ++ x ∷ r ≡ b ++ y ∷ s → (a ≡ b) × (x ≡ y) × (r ≡ s)
in_two [] [] x y r s p q o v e = (refl, first e, rest e)
  where
    first : {c d : Part} {cs ds : List Part} → c ∷ cs ≡ d ∷ ds → c ≡ d
    first h = cc

    rest : {c d : Part} {cs ds : List Part} → c ∷ cs ≡ d ∷ ds → cs ≡ ds
    rest h = cc
in_two [] (z ∷ b) x y r s p q o v e = absurd ((All-head IsOfRun z b v).0 (subst (IsGroup mark.OpenCurly) (first e) p))
  where
    first : {c d : Part} {cs ds : List Part} → c ∷ cs ≡ d ∷ ds → c ≡ d
    first h = cc
in_two (z ∷ a) [] x y r s p q o v e = absurd ((All-head IsOfRun z a o).0 (subst (IsGroup mark.OpenCurly) (sym (first e)) q))
  where
    first : {c d : Part} {cs ds : List Part} → c ∷ cs ≡ d ∷ ds → c ≡ d
    first h = cc
in_two (z ∷ a) (w ∷ b) x y r s p q o v e =
    let i = in_two a b x y r s p q (All-tail IsOfRun z a o) (All-tail IsOfRun w b v) (rest e) in
    (ap₂ (λ c cs. c ∷ cs) (first e) i.0, i.1, i.2)
  where
    first : {c d : Part} {cs ds : List Part} → c ∷ cs ≡ d ∷ ds → c ≡ d
    first h = cc

    rest : {c d : Part} {cs ds : List Part} → c ∷ cs ≡ d ∷ ds → cs ≡ ds
    rest h = cc

old_one : {parts f r g s : List Part} → IsOldStyle parts f r → IsOldStyle parts g s → (f ≡ g) × (r ≡ s)
old_one {r = r} {s = s} o p =
    let one = ends_one o.ends p.ends in
    let i = in_two o.runs p.runs o.body p.body r s o.braces p.braces o.of_runs p.of_runs one.1 in (
      o.whole ∙ ap₂ (λ a b. a ++ b ∷ []) (ap₂ (λ a b. a ++ b) one.0 i.0) i.1 ∙ sym p.whole,
      i.2,
    )

-- an item is one
pub item_one : {parts f r g s : List Part} → IsItem parts f r → IsItem parts g s → (f ≡ g) × (r ≡ s)
item_one (old_style o) (old_style p) = old_one o p
item_one {f = f} {r = r} (old_style o) (plain e lacks) = absurd (lacks f r o)
item_one {g = g} {s = s} (plain e lacks) (old_style o) = absurd (lacks g s o)
item_one (plain e lacks) (plain d none) = ends_one e d

none_ends : {front rest : List Part} → Ends [] front rest → ⊥
none_ends h = elim h [ ]

none_item : {front rest : List Part} → IsItem [] front rest → ⊥
none_item (old_style o) = none_ends o.ends
none_item (plain e lacks) = none_ends e

-- and so are the items of parts
pub cuts_one : {n : ℕ} {parts : List Part} {xs ys : List ℕ} {b c : Bool} → AreStarts n parts xs b → AreStarts n parts ys c
    → (xs ≡ ys) × (b ≡ c)
cuts_one no_items no_items = (refl, refl)
cuts_one no_items (an_item i more) = absurd (none_item i)
cuts_one (an_item i more) no_items = absurd (none_item i)
cuts_one {n = n} (an_item {front} {rest} {starts} {finished} i more) (an_item {rest = last_rest} j others) =
    let one = item_one i j in
    let same = cuts_one (subst (λ f. AreStarts (n + length (tokens_of f)) last_rest starts finished) one.0
    (subst (λ r. AreStarts (n + length (tokens_of front)) r starts finished) one.1 more)) others in
    (ap (λ l. n ∷ l) same.0, same.1)
cuts_one (an_item {front} {rest} i more) (no_end lacks) = absurd (lacks front rest i)
cuts_one (no_end lacks) (an_item {front} {rest} i more) = absurd (lacks front rest i)
cuts_one (no_end lacks) (no_end none) = (refl, refl)
