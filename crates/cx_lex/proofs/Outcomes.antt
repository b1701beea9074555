-- The outcome of a text, as it is computed element by element.
use Rattle.std.proofs.Common.{◌≡◌, ℕ, zero, suc, ◌+◌, ◌-◌, ◌<◌, ◌≤◌, List, [], ◌∷◌, ◌++◌, Bool, true, false, cond, ◌&&◌, ◌==◌, refl, sym, ap, ap₂, ◌∙◌, subst, arith, length, append_assoc, append-nil, flat_map, map, codes}
use Rattle.std.specs.List.{list_all}
use Rattle.std.proofs.lemmas.List.{length-append}
use Rattle.cx_base.specs.declared.place.Place.{Place}
use Rattle.cx_tokens.specs.declared.token.Kind.{Kind}
use Rattle.cx_lex.specs.declared.before.Before.{Before}
use Rattle.cx_lex.specs.declared.character.Character.{Character}
use Rattle.cx_lex.specs.declared.comment.Comment.{Comment}
use Rattle.cx_lex.specs.declared.piece.Piece.{Piece}
use Rattle.cx_lex.specs.WholeText.{ConsistsOf, comment_texts, piece_spellings, piece_texts, without_deleted, without_newline}
use Rattle.cx_lex.specs.Elements.{Element, IsElement, at_start, after_element, characters_of, comment, piece, separator}
use Rattle.cx_tokens.specs.Digraphs.{plain_text, spelling_of}
use Rattle.cx_tokens.proofs.DigraphLaws.{spelling_kept}
use Rattle.cx_lex.specs.Shapes.Fronts.{Found, element_at, found, nothing, open_comment}
use Rattle.cx_lex.specs.Lexing as lexing
use Rattle.cx_lex.specs.Lexing.{AreElements, Lexes, Outcome, comments_of, lexed, piece_of, pieces_of, place_of, all_characters, too_long, unclosed_comment}
use Rattle.cx_lex.specs.Lines.{begins_with_newline, bytes_of, characters, characters_after_newline, file_characters, file_start, next_line, place_after}
use Rattle.cx_lex.specs.Elements.{StandsNowhere}
use Rattle.cx_lex.proofs.ElementComplete.{element_complete, open_complete}
use Rattle.cx_lex.proofs.ElementSound.{bytes_append, element_sound}
use Rattle.cx_lex.proofs.Found.{Is, IsFound}
use Rattle.cx_lex.proofs.FrontLaws.{element_end}
use Rattle.cx_lex.proofs.GoesLaws.{Goes, comments_more, count_more, count_of, goes_end, goes_long, goes_more, goes_open, lexes_goes, own_comments, own_pieces, pieces_more, put, put_twice}
use Rattle.cx_lex.proofs.Well.{is_well, well_behind, well_characters}

-- what comes of a piece that was found, where `go` tells what comes of the rest
unfoldable pub piece_after : (Before → ℕ → List Character → Outcome) → Before → ℕ → Kind → List Character → List Character → Outcome
piece_after go before zero kind cs rest = too_long (place_of cs)
piece_after go before (suc left) kind cs rest = put (own_pieces before (piece kind cs)) [] (go (after_element before (piece kind cs)) left rest)

-- what comes of what was found
unfoldable pub after : (Before → ℕ → List Character → Outcome) → Before → ℕ → Found → Outcome
after go before limit nothing = lexed [] []
after go before limit (open_comment place rest) = unclosed_comment place
after go before limit (found (separator c) rest) = put [] [] (go (after_element before (separator c)) limit rest)
after go before limit (found (comment mark text end) rest) =
    put [] (own_comments before (comment mark text end)) (go (after_element before (comment mark text end)) limit rest)
after go before limit (found (piece kind cs) rest) = piece_after go before limit kind cs rest

-- the outcome of at most so many elements
unfoldable pub run : ℕ → Before → ℕ → List Character → Outcome
run zero before limit cs = lexed [] []
run (suc n) before limit cs = after (run n) before limit (element_at before.directive cs)

run_is : (n : ℕ) (before : Before) (limit : ℕ) (cs : List Character) (f : Found) → element_at before.directive cs ≡ f → run (suc n) before limit cs ≡ after (run n) before limit f
unfolding run
run_is n before limit cs f e = ap (after (run n) before limit) e

after_more : (go : Before → ℕ → List Character → Outcome) (before : Before) (limit left : ℕ) (e : Element) (rest : List Character) → count_of e + left ≡ limit
    → after go before limit (found e rest) ≡ put (own_pieces before e) (own_comments before e) (go (after_element before e) left rest)
unfolding after piece_after
after_more go before limit left (separator c) rest n =
    let m : limit ≡ left = omega arith in ap (λ k. put [] [] (go (after_element before (separator c)) k rest)) m
after_more go before limit left (comment mark text end) rest n =
    let m : limit ≡ left = omega arith in
    ap (λ k. put [] (own_comments before (comment mark text end)) (go (after_element before (comment mark text end)) k rest)) m
after_more go before zero left (piece kind cs) rest n = absurd (omega arith)
after_more go before (suc k) left (piece kind cs) rest n =
    let m : k ≡ left = omega arith in ap (λ j. put (own_pieces before (piece kind cs)) [] (go (after_element before (piece kind cs)) j rest)) m

-- an element that stands in front is found there
found_here : (before : Before) (e : Element) (rest : List Character) → list_all is_well (characters_of e ++ rest) ≡ true → IsElement before e rest → IsFound before (characters_of e ++ rest) e rest
found_here before e rest w h = subst (Is before (characters_of e ++ rest)) (element_complete before e rest w h) (element_sound before (characters_of e ++ rest) w)

some_length : (before : Before) (e : Element) (rest : List Character) → list_all is_well (characters_of e ++ rest) ≡ true → IsElement before e rest → length rest < length (characters_of e ++ rest)
some_length before e rest w h =
    let f = found_here before e rest w h in let n = ap length f.some_text.2 in let m = length-append (characters_of e) rest in omega (arith, n, m)

abbrev before_all : Before → List Element → Before
before_all before [] = before
before_all before (e ∷ es) = before_all (after_element before e) es

run_more : (n : ℕ) (before : Before) (limit left : ℕ) (e : Element) (rest : List Character) → list_all is_well (characters_of e ++ rest) ≡ true → IsElement before e rest
    → length (characters_of e ++ rest) ≤ n → count_of e + left ≡ limit
    → (m : ℕ) × (length rest ≤ m) × (run n before limit (characters_of e ++ rest) ≡ put (own_pieces before e) (own_comments before e) (run m (after_element before e) left rest))
run_more zero before limit left e rest w h l n = let k = some_length before e rest w h in absurd (omega arith)
run_more (suc m) before limit left e rest w h l n = (
  m,
  (let k = some_length before e rest w h in omega arith),
  run_is m before limit (characters_of e ++ rest) (found e rest) (element_complete before e rest w h) ∙ after_more (run m) before limit left e rest n,
)

put_nothing : (o : Outcome) → put [] [] o ≡ o
put_nothing (lexed ps ks) = refl
put_nothing (unclosed_comment at) = refl
put_nothing (too_long at) = refl

run_elements : (es : List Element) (n : ℕ) (before : Before) (limit left : ℕ) (rest : List Character) (o : Outcome) → AreElements before es rest
    → list_all is_well (all_characters es ++ rest) ≡ true → length (all_characters es ++ rest) ≤ n → length (pieces_of before es) + left ≡ limit
    → ((m : ℕ) → length rest ≤ m → run m (before_all before es) left rest ≡ o) → run n before limit (all_characters es ++ rest) ≡ put (pieces_of before es) (comments_of before es) o
run_elements [] n before limit left rest o a w l k h =
    let m : limit ≡ left = omega arith in ap (λ j. run n before j rest) m ∙ h n l ∙ sym (put_nothing o)
run_elements (e ∷ es) n before limit left rest o a w l k h =
    let s = append_assoc (characters_of e) (all_characters es) rest in
    let c = count_more before e es in
    let v = subst (λ t. list_all is_well t ≡ true) s w in
    let r = run_more n before limit (length (pieces_of (after_element before e) es) + left) e (all_characters es ++ rest) v a.0 (subst (λ t. length t ≤ n) s l) (omega arith) in
    let i = run_elements es r.0 (after_element before e) (length (pieces_of (after_element before e) es) + left) left rest o a.1
    (well_behind (characters_of e) (all_characters es ++ rest) v) r.1 refl h in
    ap (run n before limit) s ∙ r.2 ∙ ap (put (own_pieces before e) (own_comments before e)) i
    ∙ put_twice (own_pieces before e) (pieces_of (after_element before e) es) (own_comments before e) (comments_of (after_element before e) es) o
    ∙ ap₂ (λ ps ks. put ps ks o) (sym (pieces_more before e es)) (sym (comments_more before e es))

run_end : (m : ℕ) (before : Before) (limit : ℕ) → run m before limit [] ≡ lexed [] []
unfolding run after piece_after
run_end zero before limit = refl
run_end (suc m) before limit = run_is m before limit [] nothing (element_end before.directive)

run_open : (m : ℕ) (before : Before) (limit : ℕ) (cs : List Character) (inner : List ℕ) → list_all is_well cs ≡ true → bytes_of cs ≡ codes "/*" ++ inner → StandsNowhere (codes "*/") inner
    → length cs ≤ m → run m before limit cs ≡ unclosed_comment (place_of cs)
unfolding run after piece_after
run_open m before limit [] inner w e n l = absurd cc
run_open zero before limit (c ∷ cs) inner w e n l = absurd (omega arith)
run_open (suc m) before limit (c ∷ cs) inner w e n l =
    run_is m before limit (c ∷ cs) (open_comment c.place []) (open_complete before.directive (c ∷ cs) inner w e n)

run_long : (m : ℕ) (before : Before) (kind : Kind) (cs rest : List Character) → list_all is_well (cs ++ rest) ≡ true → IsElement before (piece kind cs) rest
    → length (cs ++ rest) ≤ m → run m before 0 (cs ++ rest) ≡ too_long (place_of cs)
unfolding run after piece_after
run_long zero before kind cs rest w h l = let k = some_length before (piece kind cs) rest w h in absurd (omega arith)
run_long (suc m) before kind cs rest w h l = run_is m before 0 (cs ++ rest) (found (piece kind cs) rest) (element_complete before (piece kind cs) rest w h)

-- elements in two parts
are_split : (before : Before) (es fs : List Element) (rest : List Character) → AreElements before (es ++ fs) rest
    → AreElements before es (all_characters fs ++ rest) × AreElements (before_all before es) fs rest
are_split before [] fs rest a = (tt, a)
are_split before (e ∷ es) fs rest a =
    let h = are_split (after_element before e) es fs rest a.1 in
    ((subst (IsElement before e) (ap (λ t. t ++ rest) (spelled_both es fs) ∙ append_assoc (all_characters es) (all_characters fs) rest) a.0, h.0), h.1)
  where
    spelled_both : (es fs : List Element) → all_characters (es ++ fs) ≡ all_characters es ++ all_characters fs
    spelled_both [] fs = refl
    spelled_both (e ∷ es) fs = ap (λ t. characters_of e ++ t) (spelled_both es fs) ∙ sym (append_assoc (characters_of e) (all_characters es) (all_characters fs))

spelled_two : (es fs : List Element) → all_characters (es ++ fs) ≡ all_characters es ++ all_characters fs
spelled_two [] fs = refl
spelled_two (e ∷ es) fs = ap (λ t. characters_of e ++ t) (spelled_two es fs) ∙ sym (append_assoc (characters_of e) (all_characters es) (all_characters fs))

unfoldable pub outcome_at : ℕ → ℕ → List ℕ → Outcome
outcome_at file limit text = run (length (file_characters file text)) at_start limit (file_characters file text)

-- whatever outcome a text has, it is the computed one
pub lexes_run : (file limit : ℕ) (text : List ℕ) (o : Outcome) → Lexes file limit text o → outcome_at file limit text ≡ o
unfolding outcome_at
lexes_run file limit text o (lexing.whole es e a n) =
    let w = well_characters text (file_start file) in
    let f : file_characters file text ≡ all_characters es ++ [] = e ∙ sym (append-nil (all_characters es)) in
    ap (run (length (file_characters file text)) at_start limit) f
    ∙ run_elements es (length (file_characters file text)) at_start limit (limit - length (pieces_of at_start es)) [] (lexed [] []) a
    (subst (λ t. list_all is_well t ≡ true) f w) (let g = ap length f in omega arith) (omega arith) (λ m _. run_end m (before_all at_start es) (limit - length (pieces_of at_start es)))
    ∙ ap₂ lexed (append-nil (pieces_of at_start es)) (append-nil (comments_of at_start es))
lexes_run file limit text o (lexing.open_comment es rest inner e a n b h) =
    let w = subst (λ t. list_all is_well t ≡ true) e (well_characters text (file_start file)) in
    ap (run (length (file_characters file text)) at_start limit) e
    ∙ run_elements es (length (file_characters file text)) at_start limit (limit - length (pieces_of at_start es)) rest (unclosed_comment (place_of rest)) a w
    (let g = ap length e in omega arith) (omega arith)
    (λ m l. run_open m (before_all at_start es) (limit - length (pieces_of at_start es)) rest inner (well_behind (all_characters es) rest w) b h l)
lexes_run file limit text o (lexing.piece_more es kind cs rest e a n) =
    let s = are_split at_start es (piece kind cs ∷ []) rest a in
    let f : file_characters file text ≡ all_characters es ++ (cs ++ rest) =
    e ∙ ap (λ t. t ++ rest) (spelled_two es (piece kind cs ∷ [])) ∙ append_assoc (all_characters es) (cs ++ []) rest ∙ ap (λ t. all_characters es ++ (t ++ rest)) (append-nil cs) in
    let w = subst (λ t. list_all is_well t ≡ true) f (well_characters text (file_start file)) in
    ap (run (length (file_characters file text)) at_start limit) f
    ∙ run_elements es (length (file_characters file text)) at_start limit 0 (cs ++ rest) (too_long (place_of cs))
    (subst (λ t. AreElements at_start es (t ++ rest)) (append-nil cs) s.0) w (let g = ap length f in omega arith) (omega arith)
    (λ m l. run_long m (before_all at_start es) kind cs rest (well_behind (all_characters es) (cs ++ rest) w) s.1.0 l)

pub one_outcome_of : (file limit : ℕ) (text : List ℕ) (some other : Outcome) → Lexes file limit text some → Lexes file limit text other → some ≡ other
one_outcome_of file limit text some other a b = sym (lexes_run file limit text some a) ∙ lexes_run file limit text other b

-- the computed outcome is one

shorter : (before : Before) (cs : List Character) (e : Element) (rest : List Character) → IsFound before cs e rest → length rest < length cs
shorter before cs e rest f =
    let n = ap length f.whole_text ∙ length-append (characters_of e) rest in let m = ap length f.some_text.2 in omega (arith, n, m)

well_rest : (before : Before) (cs : List Character) (e : Element) (rest : List Character) → IsFound before cs e rest → list_all is_well cs ≡ true → list_all is_well rest ≡ true
well_rest before cs e rest f w = well_behind (characters_of e) rest (subst (λ t. list_all is_well t ≡ true) f.whole_text w)

run_found : (n : ℕ) (before : Before) (limit : ℕ) (cs : List Character) (f : Found) → Is before cs f → list_all is_well cs ≡ true → length cs ≤ suc n
    → ((b : Before) (k : ℕ) (rest : List Character) → list_all is_well rest ≡ true → length rest ≤ n → Goes b k rest (run n b k rest))
    → Goes before limit cs (after (run n) before limit f)
unfolding after piece_after
run_found n before limit cs nothing h w l more = subst (λ t. Goes before limit t (lexed [] [])) (sym h) (goes_end before limit)
run_found n before limit cs (open_comment place rest) h w l more =
    subst (λ p. Goes before limit cs (unclosed_comment p)) (sym h.at) (goes_open before limit cs h.inner h.begins h.no_end)
run_found n before zero cs (found (piece kind xs) rest) h w l more =
    subst (λ t. Goes before 0 t (too_long (place_of xs))) (sym h.whole_text) (goes_long before kind xs rest h.is_element)
run_found n before (suc left) cs (found (piece kind xs) rest) h w l more =
    let k = shorter before cs (piece kind xs) rest h in
    subst (λ t. Goes before (suc left) t (put (own_pieces before (piece kind xs)) [] (run n (after_element before (piece kind xs)) left rest))) (sym h.whole_text)
    (goes_more before (suc left) left (piece kind xs) rest _ h.is_element (omega arith)
    (more (after_element before (piece kind xs)) left rest (well_rest before cs (piece kind xs) rest h w) (omega arith)))
run_found n before limit cs (found (separator c) rest) h w l more =
    let k = shorter before cs (separator c) rest h in
    subst (λ t. Goes before limit t (put [] [] (run n (after_element before (separator c)) limit rest))) (sym h.whole_text)
    (goes_more before limit limit (separator c) rest _ h.is_element (omega arith)
    (more (after_element before (separator c)) limit rest (well_rest before cs (separator c) rest h w) (omega arith)))
run_found n before limit cs (found (comment mark text end) rest) h w l more =
    let k = shorter before cs (comment mark text end) rest h in
    subst (λ t. Goes before limit t (put [] (own_comments before (comment mark text end)) (run n (after_element before (comment mark text end)) limit rest))) (sym h.whole_text)
    (goes_more before limit limit (comment mark text end) rest _ h.is_element (omega arith)
    (more (after_element before (comment mark text end)) limit rest (well_rest before cs (comment mark text end) rest h w) (omega arith)))

run_sound : (n : ℕ) (before : Before) (limit : ℕ) (cs : List Character) → list_all is_well cs ≡ true → length cs ≤ n → Goes before limit cs (run n before limit cs)
unfolding run
run_sound zero before limit [] w l = goes_end before limit
run_sound zero before limit (c ∷ cs) w l = absurd (omega arith)
run_sound (suc n) before limit cs w l =
    run_found n before limit cs (element_at before.directive cs) (element_sound before cs w) w l (λ b k rest v m. run_sound n b k rest v m)

pub some_outcome_of : (file limit : ℕ) (text : List ℕ) → (o : Outcome) × Lexes file limit text o
unfolding outcome_at
some_outcome_of file limit text = (
  outcome_at file limit text,
  lexes_goes file limit text (outcome_at file limit text)
      (run_sound (length (file_characters file text)) at_start limit (file_characters file text) (well_characters text (file_start file)) (omega arith)),
)

-- the elements are the text

either_kept : (t : Bool) (x y : List Character) (v w : List ℕ) → bytes_of x ≡ v → bytes_of y ≡ w → bytes_of (cond t x y) ≡ cond t v w
either_kept true x y v w e f = e
either_kept false x y v w e f = f

mutual
  unfolding characters without_deleted

  bytes_kept : (text : List ℕ) (at : Place) → bytes_of (characters at text) ≡ without_deleted text
  bytes_kept [] at = refl
  bytes_kept (b ∷ bs) at =
      either_kept ((b == 92) && begins_with_newline bs) _ _ _ _ (rest_kept bs (next_line at))
      (ap (λ l. b ∷ l) (bytes_kept bs (place_after at b)))

  rest_kept : (text : List ℕ) (at : Place) → bytes_of (characters_after_newline at text) ≡ without_newline text
  rest_kept [] at = refl
  rest_kept (b ∷ bs) at = either_kept (b == 10) _ _ _ _ (bytes_kept bs at) (rest_kept bs at)

bytes_spelled : (es : List Element) → bytes_of (all_characters es) ≡ flat_map (λ e. bytes_of (characters_of e)) es
bytes_spelled [] = refl
bytes_spelled (e ∷ es) = bytes_append (characters_of e) (all_characters es) ∙ ap (λ l. bytes_of (characters_of e) ++ l) (bytes_spelled es)

pieces_texts : (before : Before) (es : List Element) → map (λ (p : Piece). p.token.text) (pieces_of before es) ≡ piece_texts es
pieces_texts before [] = refl
pieces_texts before (separator c ∷ es) = pieces_texts (after_element before (separator c)) es
pieces_texts before (comment mark text end ∷ es) = pieces_texts (after_element before (comment mark text end)) es
pieces_texts before (piece kind cs ∷ es) = ap (λ l. plain_text kind (bytes_of cs) ∷ l) (pieces_texts (after_element before (piece kind cs)) es)

comments_texts : (before : Before) (es : List Element) → map (λ (k : Comment). k.text) (comments_of before es) ≡ comment_texts es
comments_texts before [] = refl
comments_texts before (separator c ∷ es) = comments_texts (after_element before (separator c)) es
comments_texts before (piece kind cs ∷ es) = comments_texts (after_element before (piece kind cs)) es
comments_texts before (comment mark text end ∷ es) = ap (λ l. bytes_of text ∷ l) (comments_texts (after_element before (comment mark text end)) es)

pieces_spellings : (before : Before) (es : List Element) → map (λ (p : Piece). spelling_of p.token) (pieces_of before es) ≡ piece_spellings es
pieces_spellings before [] = refl
pieces_spellings before (separator c ∷ es) = pieces_spellings (after_element before (separator c)) es
pieces_spellings before (comment mark text end ∷ es) = pieces_spellings (after_element before (comment mark text end)) es
pieces_spellings before (piece kind cs ∷ es) =
    ap₂ (λ s l. s ∷ l) (spelling_kept (piece_of before kind cs).token (bytes_of cs) refl refl) (pieces_spellings (after_element before (piece kind cs)) es)

abbrev MadeOf : ℕ → List ℕ → Outcome → Type 0
MadeOf file text (lexed ps ks) = ConsistsOf file text ps ks
MadeOf file text _ = Unit {0}

made_of : (file limit : ℕ) (text : List ℕ) (o : Outcome) → Lexes file limit text o → MadeOf file text o
made_of file limit text o (lexing.whole es e a n) = record {
  elements = es;
  are_elements = a;
  characters = e;
  bytes = sym (bytes_spelled es) ∙ sym (ap bytes_of e) ∙ bytes_kept text (file_start file);
  texts = pieces_texts at_start es;
  spellings = pieces_spellings at_start es;
  comments_are = comments_texts at_start es;
}
made_of file limit text o (lexing.open_comment es rest inner e a n b h) = tt
made_of file limit text o (lexing.piece_more es kind cs rest e a n) = tt

pub elements_of : (file limit : ℕ) (text : List ℕ) (ps : List Piece) (ks : List Comment) → Lexes file limit text (lexed ps ks) → ConsistsOf file text ps ks
elements_of file limit text ps ks h = made_of file limit text (lexed ps ks) h
