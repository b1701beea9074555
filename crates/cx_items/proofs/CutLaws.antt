-- Lists of tokens, cut into items.
use Rattle.std.proofs.Common.{◌≡◌, arith, ℕ, suc, ◌+◌, List, [], ◌∷◌, ◌++◌, Bool, false, refl, sym, ap, ◌∙◌, subst, drop, length, map}
use Rattle.std.proofs.lemmas.List.{length-append}
use Rattle.cx_syntax_tree.specs.declared.terminals.Lexeme.{Lexeme}
use Rattle.cx_items.specs.declared.cuts.Entry.{Entry}
use Rattle.cx_items.specs.Brackets.{IsParts, Part, spelled, tokens_of}
use Rattle.cx_items.specs.Cutting.{AreStarts, IsItem, an_item, no_end, no_items, old_style, plain}
use Rattle.cx_items.specs.Shapes.Ends.{Walks, ahead, at_end, entries_of, item_behind, kinds, last, on, unfinished}
use Rattle.cx_items.specs.Shapes.Outlines.{outline}
use Rattle.cx_items.proofs.AheadLaws.{ahead_of}
use Rattle.cx_items.proofs.EndLaws.{item_whole, some_front}
use Rattle.cx_items.proofs.ItemLaws.{item_found, no_item}
use Rattle.cx_items.proofs.OutlineLaws.{kind_of, outermost, outlined}
use Rattle.cx_items.proofs.StackLaws.{length_entries}

their_kinds : (n : ℕ) (parts : List Part) → kinds (outermost n parts) ≡ map kind_of parts
unfolding outermost
their_kinds n [] = refl
their_kinds n (x ∷ xs) = ap (λ ks. kind_of x ∷ ks) (their_kinds (n + length (spelled x)) xs)

-- for each part its first token, and how many parts stand behind the item that begins with it
entries : ℕ → List Part → List Entry
entries n parts = entries_of (outermost n parts)

first_entry : (n : ℕ) (x : Part) (xs : List Part)
    → entries n (x ∷ xs) ≡ record { first = n; behind = item_behind (ahead_of (x ∷ xs)) } ∷ entries (n + length (spelled x)) xs
unfolding entries outermost entries_of ahead_of
first_entry n x xs =
    ap (λ ks. record { first = n; behind = item_behind (ahead (kind_of x ∷ ks)) } ∷ entries_of (outermost (n + length (spelled x)) xs))
    (their_kinds (n + length (spelled x)) xs)

no_entries : (n : ℕ) → entries n [] ≡ []
unfolding entries outermost entries_of
no_entries n = refl

counted : (n : ℕ) (parts : List Part) → length (outermost n parts) ≡ length parts
unfolding outermost
counted n [] = refl
counted n (x ∷ xs) = ap suc (counted (n + length (spelled x)) xs)

count : (n : ℕ) (parts : List Part) → length (entries n parts) ≡ length parts
unfolding entries
count n parts = length_entries (outermost n parts) ∙ counted n parts

never_none : (xs : List Part) (y : Part) → [] ≡ xs ++ y ∷ [] → ⊥
never_none [] y h = absurd cc
never_none (x ∷ xs) y h = absurd cc

-- the entries of what stands behind
entries_behind : (n : ℕ) (front rest : List Part)
    → drop (length front) (entries n (front ++ rest)) ≡ entries (n + length (tokens_of front)) rest
unfolding tokens_of
entries_behind n [] rest = ap (λ m. entries m rest) (omega arith)
entries_behind n (x ∷ xs) rest =
    ap (drop (suc (length xs))) (first_entry n x (xs ++ rest))
    ∙ entries_behind (n + length (spelled x)) xs rest
    ∙ ap (λ m. entries m rest) (omega (arith, length-append (spelled x) (tokens_of xs)))

-- the last entries are those of what stands behind an item
entries_last : (n : ℕ) (x : Part) (xs front rest : List Part) (m : ℕ) → IsItem (x ∷ xs) front rest → length rest ≡ m
    → last m (entries (n + length (spelled x)) xs) ≡ entries (n + length (tokens_of front)) rest
unfolding tokens_of
entries_last n x xs front rest m item long = by front (item_whole item) item
  where
    inner : {y : Part} {ys : List Part} → x ∷ xs ≡ y ∷ ys → (x ≡ y) × (xs ≡ ys)
    inner e = (cc, cc)

    by : (front : List Part) → x ∷ xs ≡ front ++ rest → IsItem (x ∷ xs) front rest
        → last m (entries (n + length (spelled x)) xs) ≡ entries (n + length (tokens_of front)) rest
    by [] w item = absurd (nothing item)
      where
        nothing : IsItem (x ∷ xs) [] rest → ⊥
        nothing (plain e lacks) = some_front e
        nothing (old_style o) = never_none (o.head ++ o.runs) o.body o.whole
    by (y ∷ ys) w item =
        let i = inner w in
        ap (λ l. last m (entries (n + length (spelled x)) l)) i.1
        ∙ ap (λ k. drop k (entries (n + length (spelled x)) (ys ++ rest)))
        (let c = count (n + length (spelled x)) (ys ++ rest) in omega (arith, c, long, length-append ys rest))
        ∙ entries_behind (n + length (spelled x)) ys rest
        ∙ ap (λ k. entries k rest)
        (ap (λ z. n + length (spelled z) + length (tokens_of ys)) i.0 ∙ omega (arith, length-append (spelled y) (tokens_of ys)))

same_first : {d e : Entry} {ds es : List Entry} → d ∷ ds ≡ e ∷ es → (d ≡ e) × (ds ≡ es)
same_first h = (cc, cc)

nothing : {A : Type 0} {d : Entry} {ds : List Entry} → [] ≡ d ∷ ds → A
nothing h = absurd cc

-- from item to item
walks : {es : List Entry} {starts : List ℕ} {finished : Bool} → Walks es starts finished
    → (n : ℕ) (parts : List Part) → es ≡ entries n parts → AreStarts n parts starts finished
walks at_end n [] h = no_items
walks at_end n (x ∷ xs) h = nothing (h ∙ first_entry n x xs)
walks (unfinished b) n [] h = nothing (sym (h ∙ no_entries n))
walks (unfinished {e = d} b) n (x ∷ xs) h =
    let same = (same_first (h ∙ first_entry n x xs)).0 in
    subst (λ m. AreStarts n (x ∷ xs) (m ∷ []) false) (sym (ap (λ d. d.first) same))
    (no_end (no_item (x ∷ xs) (sym (ap (λ d. d.behind) same) ∙ b)))
walks (on m b w) n [] h = nothing (sym (h ∙ no_entries n))
walks (on {e = d} {es} {starts} {finished} m b w) n (x ∷ xs) h =
    let same = same_first (h ∙ first_entry n x xs) in
    let item = item_found (x ∷ xs) m (sym (ap (λ d. d.behind) same.0) ∙ b) in
    subst (λ k. AreStarts n (x ∷ xs) (k ∷ starts) finished) (sym (ap (λ d. d.first) same.0))
    (an_item item.2 (walks w (n + length (tokens_of item.0)) item.1
    (ap (last m) same.1 ∙ entries_last n x xs item.0 item.1 m item.2 item.3)))

pub cut_so : (ts : List Lexeme) (parts : List Part) (es : List Entry) (starts : List ℕ) (finished : Bool)
    → IsParts ts parts → es ≡ entries_of (outline 0 0 ts) → Walks es starts finished → AreStarts 0 parts starts finished
unfolding entries
cut_so ts parts es starts finished h e w = walks w 0 parts (e ∙ ap entries_of (outlined 0 ts parts h))
