-- The item that begins at a part.
use Rattle.std.proofs.Common.{◌≡◌, ℕ, List, [], ◌∷◌, ◌++◌, Bool, true, false, Option, Some, None, refl, sym, ap, ◌∙◌, subst, length}
use Rattle.std.proofs.lemmas.List.{append-nil}
use Rattle.cx_items.specs.declared.ends.Head.{Head}
use Rattle.cx_items.specs.Brackets.{Part}
use Rattle.cx_items.specs.Cutting.{EndsInSemicolon, Ends, HasWordBehind, IsItem, IsOldStyle, old_style, plain}
use Rattle.cx_items.specs.Shapes.Ends.{chosen_end, item_behind, item_of}
use Rattle.cx_items.proofs.AheadLaws.{Closed, HeadAt, Runs, ahead_of, end_is_found, from, head_found, runs_found, runs_told_by}
use Rattle.cx_items.proofs.EndLaws.{ends_behind, ends_last, ends_one}

some_same : {A : Type 0} {a b : A} → Some a ≡ Some b → a ≡ b
some_same h = cc

-- the end of an old-style definition
old_from : (parts front rest : List Part) (n : ℕ) → Ends parts front rest → EndsInSemicolon front → HasWordBehind front
    → Runs true rest n → (f r : List Part) × IsOldStyle parts f r × (length r ≡ n)
old_from parts front rest n ends s w r = (
  front ++ r.runs ++ r.body ∷ [],
  r.rest,
  record {
    head = front;
    runs = r.runs;
    body = r.body;
    ends = subst (Ends parts front) r.whole ends;
    first = s;
    word = w;
    of_runs = r.of_runs;
    closed = closes r.runs r.closed;
    braces = r.braces;
    whole = refl;
  },
  r.many,
)
  where
    closes : (runs : List Part) → Closed true runs → EndsInSemicolon (front ++ runs)
    closes [] c = subst EndsInSemicolon (sym (append-nil front)) s
    closes (x ∷ xs) c = ends_behind front c

-- .. is found
old_told : (parts f r : List Part) (h : Head) → (ahead_of parts).head ≡ Some h → IsOldStyle parts f r
    → (h.word ≡ true) × (h.old_style ≡ Some (length r))
old_told parts f r h e o =
    let a = head_found parts h e in
    let one = ends_one a.ends o.ends in (
      a.only (subst HasWordBehind (sym one.0) o.word),
      a.old (subst EndsInSemicolon (sym one.0) o.first)
          ∙ ap (λ l. from true (ahead_of l)) one.1
          ∙ runs_told_by o.runs o.body r true o.of_runs (closes o.runs o.closed) o.braces,
    )
  where
    closes : (runs : List Part) → EndsInSemicolon (o.head ++ runs) → Closed true runs
    closes [] c = refl
    closes (x ∷ xs) c = ends_last o.head x xs c

Found : List Part → ℕ → Type 0
Found parts n = (front : List Part) × (rest : List Part) × IsItem parts front rest × (length rest ≡ n)

chosen_item : (parts : List Part) (h : Head) (n : ℕ) → (ahead_of parts).head ≡ Some h
    → chosen_end h h.word h.old_style ≡ n → Found parts n
unfolding Found
chosen_item parts h n e c = by h.word h.old_style refl refl c
  where
    a : HeadAt parts h
    a = head_found parts h e

    plainly : ((f r : List Part) → IsOldStyle parts f r → ⊥) → h.behind ≡ n → Found parts n
    plainly lacks c = (a.front, a.rest, plain a.ends lacks, a.many ∙ c)

    by : (w : Bool) (o : Option ℕ) → h.word ≡ w → h.old_style ≡ o → chosen_end h w o ≡ n → Found parts n
    by true (Some m) w o c =
        let s = a.closed m o in
        let r = old_from parts a.front a.rest m a.ends s (a.word w) (runs_found a.rest m true (sym (a.old s) ∙ o)) in
        (r.0, r.1, old_style r.2, r.3 ∙ c)
    by true None w o c = plainly (λ f r old. none (sym o ∙ (old_told parts f r h e old).1)) c
      where
        none : {m : ℕ} → None ≡ Some m → ⊥
        none h = absurd cc
    by false o w q c = plainly (λ f r old. unlike (sym w ∙ (old_told parts f r h e old).0)) c
      where
        unlike : false ≡ true → ⊥
        unlike h = absurd cc

pub item_found : (parts : List Part) (n : ℕ) → item_behind (ahead_of parts) ≡ Some n
    → (front : List Part) × (rest : List Part) × IsItem parts front rest × (length rest ≡ n)
unfolding Found
item_found parts n e = by (ahead_of parts).head refl e
  where
    by : (o : Option Head) → (ahead_of parts).head ≡ o → item_of o ≡ Some n → Found parts n
    by None q e = absurd cc
    by (Some h) q e = chosen_item parts h n q (some_same e)

ends_of : {parts front rest : List Part} → IsItem parts front rest
    → (f : List Part) × (r : List Part) × Ends parts f r
ends_of {rest = rest} (old_style o) = (o.head, o.runs ++ o.body ∷ rest, o.ends)
ends_of {front = front} {rest = rest} (plain e lacks) = (front, rest, e)

pub no_item : (parts : List Part) → item_behind (ahead_of parts) ≡ None
    → (front rest : List Part) → IsItem parts front rest → ⊥
no_item parts e front rest item =
    let t = ends_of item in by (ahead_of parts).head refl e (end_is_found t.2)
  where
    by : (o : Option Head) → (ahead_of parts).head ≡ o → item_of o ≡ None → ((ahead_of parts).head ≡ None → ⊥) → ⊥
    by None q e f = f q
    by (Some h) q e f = absurd cc
