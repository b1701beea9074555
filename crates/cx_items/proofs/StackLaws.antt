-- Stacks of parts and of entries, the first of which is taken last.
use Rattle.std.proofs.Common.{◌≡◌, ℕ, suc, ◌-◌, List, [], ◌∷◌, ◌++◌, Bool, true, false, Some, None, refl, sym, ap, ap₂, ◌∙◌, subst, drop, length, reverse, take}
use Rattle.std.proofs.lemmas.List.{append_assoc, append-nil, length-drop, length-map, length-reverse, reverse-append, take-append-drop}
use Rattle.cx_items.specs.declared.outline.Outermost.{Outermost}
use Rattle.cx_items.specs.declared.ends.Ahead.{Ahead}
use Rattle.cx_items.specs.declared.cuts.Entry.{Entry}
use Rattle.cx_items.specs.Shapes.Ends.{Walks, ahead, at_end, before, entries_of, item_behind, kinds, last, nothing, on, unfinished}

pub length_entries : (ps : List Outermost) → length (entries_of ps) ≡ length ps
unfolding entries_of
length_entries [] = refl
length_entries (p ∷ ps) = ap suc (length_entries ps)

pub no_parts : ahead (kinds []) ≡ nothing
unfolding ahead
no_parts = refl

pub no_entries : entries_of [] ≡ []
unfolding entries_of
no_entries = refl

-- what is told from a part on
pub further : (p : Outermost) (done : List Outermost) (entries : List Entry) (a : Ahead)
    → a ≡ ahead (kinds done) → reverse entries ≡ entries_of done
    → before p.kind (length entries) a ≡ ahead (kinds (p ∷ done))
unfolding ahead
further p done entries a e r =
    let n : length entries ≡ length (kinds done) =
    sym (length-reverse entries) ∙ ap length r ∙ length_entries done ∙ sym (length-map done (λ q. q.kind)) in
    ap₂ (λ n b. before p.kind n b) n e

-- .. and its entry
pub entered : (p : Outermost) (done : List Outermost) (entries new : List Entry) (a : Ahead) (e : Entry)
    → a ≡ ahead (kinds (p ∷ done)) → reverse entries ≡ entries_of done
    → new ≡ entries ++ e ∷ [] → e ≡ record { first = p.first; behind = item_behind a }
    → reverse new ≡ entries_of (p ∷ done)
unfolding entries_of
entered p done entries new a e h r n is =
    ap reverse n ∙ reverse-append entries (e ∷ [])
    ∙ ap₂ (λ x xs. x ∷ xs) (is ∙ ap (λ b. record { first = p.first; behind = item_behind b }) h) r

-- the last so many of the reversed are the first so many reversed
pub last_reversed : (n : ℕ) (es : List Entry) → last n (reverse es) ≡ reverse (take n es)
last_reversed n es =
    let whole : reverse es ≡ reverse (drop n es) ++ reverse (take n es) =
    ap reverse (sym (take-append-drop n es)) ∙ reverse-append (take n es) (drop n es) in
    let count : length (reverse es) - n ≡ length (reverse (drop n es)) =
    ap (λ m. m - n) (length-reverse es) ∙ sym (length_drop n es) ∙ sym (length-reverse (drop n es)) in
    ap₂ drop count whole ∙ dropped (reverse (drop n es)) (reverse (take n es))
  where
    length_drop : (n : ℕ) (xs : List Entry) → length (drop n xs) ≡ length xs - n
    length_drop n xs = length-drop n xs

    dropped : (xs ys : List Entry) → drop (length xs) (xs ++ ys) ≡ ys
    dropped [] ys = refl
    dropped (x ∷ xs) ys = dropped xs ys

-- one item more
pub walked : (all left mid : List Entry) (e : Entry) (n : ℕ) (starts : List ℕ)
    → left ≡ mid ++ e ∷ [] → e.behind ≡ Some n
    → ((more : List ℕ) (finished : Bool) → Walks (reverse left) more finished → Walks (reverse all) (starts ++ more) finished)
    → (more : List ℕ) (finished : Bool) → Walks (reverse (take n mid)) more finished
    → Walks (reverse all) ((starts ++ e.first ∷ []) ++ more) finished
walked all left mid e n starts l b w more finished h =
    subst (λ s. Walks (reverse all) s finished) (sym (append_assoc starts (e.first ∷ []) more))
    (w (e.first ∷ more) finished
    (subst (λ es. Walks es (e.first ∷ more) finished) (sym (ap reverse l ∙ reverse-append mid (e ∷ [])))
    (on n b (subst (λ es. Walks es more finished) (sym (last_reversed n mid)) h))))

-- the last item has no end
pub stopped : (all left mid : List Entry) (e : Entry) (starts : List ℕ)
    → left ≡ mid ++ e ∷ [] → e.behind ≡ None
    → ((more : List ℕ) (finished : Bool) → Walks (reverse left) more finished → Walks (reverse all) (starts ++ more) finished)
    → Walks (reverse all) (starts ++ e.first ∷ []) false
stopped all left mid e starts l b w =
    w (e.first ∷ []) false
    (subst (λ es. Walks es (e.first ∷ []) false) (sym (ap reverse l ∙ reverse-append mid (e ∷ []))) (unfinished b))

-- all items have their ends
pub ended : (all left : List Entry) (starts : List ℕ) → left ≡ []
    → ((more : List ℕ) (finished : Bool) → Walks (reverse left) more finished → Walks (reverse all) (starts ++ more) finished)
    → Walks (reverse all) starts true
ended all left starts l w =
    subst (λ s. Walks (reverse all) s true) (append-nil starts)
    (w [] true (subst (λ es. Walks (reverse es) [] true) (sym l) at_end))

pub none_left : (es : List Entry) → length es ≡ 0 → es ≡ []
none_left [] h = refl
none_left (e ∷ es) h = absurd cc
