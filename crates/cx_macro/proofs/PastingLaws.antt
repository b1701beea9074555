-- What `##` makes, step by step.
use Rattle.std.proofs.Common.{◌≡◌, ℕ, List, [], ◌∷◌, ◌++◌, Option, Some, None, refl, sym, ◌∙◌, ap, subst}
use Rattle.std.proofs.lemmas.List.{append_assoc}
use Rattle.cx_tokens.specs.declared.token.Kind.{Kind}
use Rattle.cx_tokens.specs.declared.token.Token.{Token}
use Rattle.std.proofs.Common.{Vec, Global}
use Rattle.cx_tokens.specs.Digraphs.{is_digraph, spelling_of}
use Rattle.cx_lex.specs.Lexing.{IsOnePiece}
use Rattle.cx_macro.specs.declared.substitutes.Substitute as code_substitute
use Rattle.cx_macro.specs.declared.substitutes.Substitute.TheVariants as code
use Rattle.cx_macro.specs.Shapes.Substitutes.{items_of, substitute_of_code, substitutes_of_code}
use Rattle.cx_macro.specs.Hiding.{common}
use Rattle.cx_macro.specs.Replacement as by
use Rattle.cx_macro.specs.Replacement.{Glues, Joins, JoinsSides, Substitute, operand, paste_operator, preceded_by, tokens_of}

pub joins_none : (a b : Token) → ((kind : Kind) (text : List ℕ) → ¬ IsOnePiece (spelling_of a ++ spelling_of b) kind text) → Joins a b None
joins_none a b h = by.no_piece h

pub joins_some : (a b : Token) (kind : Kind) (text : List ℕ) (hide : List (List ℕ)) → IsOnePiece (spelling_of a ++ spelling_of b) kind text → hide ≡ common a.hide b.hide
    → Joins a b (Some (record { kind = kind; text = text; place = a.place; hide = hide; space = a.space; parts = []; digraph = is_digraph kind (spelling_of a ++ spelling_of b) }))
joins_some a b kind text hide h e =
    subst (λ x. Joins a b (Some (record { kind = kind; text = text; place = a.place; hide = x; space = a.space; parts = []; digraph = is_digraph kind (spelling_of a ++ spelling_of b) }))) (sym e) (by.one_piece kind text h)

pub ruleset pasting = (joins_none, joins_some)

preceded_by-append : (front left : List Token) (made : Option (List Token)) → preceded_by (front ++ left) made ≡ preceded_by front (preceded_by left made)
preceded_by-append front left None = refl
preceded_by-append front left (Some ts) = ap Some (append_assoc front left ts)

-- what glues the rest glues the whole
pub record Gluing (all : List Substitute) (front left : List Token) (rest : List Substitute) : Type 0 where
  pub glues : (made : Option (List Token)) → Glues left rest made → Glues [] all (preceded_by front made)

pub gluing_goes : (all : List Substitute) (front left ts : List Token) (rest : List Substitute) → Gluing all front left (operand ts ∷ rest) → Gluing all (front ++ left) ts rest
gluing_goes all front left ts rest h = record {
  glues = λ made g. subst (λ x. Glues [] all x) (sym (preceded_by-append front left made)) (h.glues (preceded_by left made) (by.goes_on g));
}

pub gluing_pastes : (all : List Substitute) (front left both : List Token) (t : Token) (p : Substitute) (rest : List Substitute) → Gluing all front left (paste_operator t ∷ p ∷ rest)
    → JoinsSides left (tokens_of p) (Some both) → Gluing all front both rest
gluing_pastes all front left both t p rest h j = record { glues = λ made g. h.glues made (by.pastes both j g) }

pub gluing_fails : (all : List Substitute) (front left : List Token) (t : Token) (p : Substitute) (rest : List Substitute) → Gluing all front left (paste_operator t ∷ p ∷ rest)
    → JoinsSides left (tokens_of p) None → Glues [] all None
gluing_fails all front left t p rest h j = h.glues None (by.fails j)

pub gluing_ends : (all : List Substitute) (front left : List Token) → Gluing all front left [] → Glues [] all (Some (front ++ left))
gluing_ends all front left h = h.glues (Some left) by.ends

pub gluing_ends_with_paste : (all : List Substitute) (front left : List Token) (t : Token) → Gluing all front left (paste_operator t ∷ []) → Glues [] all (Some (front ++ left))
gluing_ends_with_paste all front left t h = h.glues (Some left) by.ends_with_paste

-- the sides, as the code takes them apart
pub right_is_empty : (left right : List Token) → right ≡ [] → JoinsSides left right (Some left)
right_is_empty left right e = subst (λ r. JoinsSides left r (Some left)) (sym e) by.right_empty

pub left_is_empty : (left right made : List Token) → left ≡ [] → made ≡ right → JoinsSides left right (Some made)
left_is_empty left right made e f =
    subst (λ m. JoinsSides left right (Some m)) (sym f) (subst (λ l. JoinsSides l right (Some right)) (sym e) by.left_empty)

pub sides_fail : (left right front rest : List Token) (a b : Token) (o : Option Token) → left ≡ front ++ a ∷ [] → right ≡ b ∷ rest → Joins a b o → o ≡ None
    → JoinsSides left right None
sides_fail left right front rest a b o e f j h = by.unjoined a b front rest e f (subst (λ x. Joins a b x) h j)

pub sides_join : (left right front rest made : List Token) (a b c : Token) (o : Option Token) → left ≡ front ++ a ∷ [] → right ≡ b ∷ rest → Joins a b o
    → o ≡ Some c → made ≡ (front ++ c ∷ []) ++ rest → JoinsSides left right (Some made)
sides_join left right front rest made a b c o e f j h m =
    subst (λ x. JoinsSides left right (Some x)) (sym (m ∙ append_assoc front (c ∷ []) rest)) (by.joined a b c front rest e f (subst (λ x. Joins a b x) h j))

-- the same of the code's parts
pub gluing_tokens : (all : List Substitute) (front left fronts : List Token) (whole rest : List code_substitute.Substitute) (p : code_substitute.Substitute) (v : Vec Token Global)
    → Gluing all front left (substitutes_of_code whole) → whole ≡ p ∷ rest → p ≡ code.Operand v → fronts ≡ front ++ left → Gluing all fronts v.items (substitutes_of_code rest)
gluing_tokens all front left fronts whole rest p v h e f g =
    let w : whole ≡ code.Operand v ∷ rest = cc in
    subst (λ x. Gluing all x v.items (substitutes_of_code rest)) (sym g) (gluing_goes all front left v.items (substitutes_of_code rest) (subst (λ x. Gluing all front left (substitutes_of_code x)) w h))

paste_front : (all : List Substitute) (front left : List Token) (whole rest : List code_substitute.Substitute) (p : code_substitute.Substitute) (t : Token) → Gluing all front left (substitutes_of_code whole) → whole ≡ p ∷ rest
    → p ≡ code.PasteOperator t → Gluing all front left (paste_operator t ∷ substitutes_of_code rest)
paste_front all front left whole rest p t h e f =
    let w : whole ≡ code.PasteOperator t ∷ rest = cc in
    subst (λ x. Gluing all front left (substitutes_of_code x)) w h

pub gluing_both : (all : List Substitute) (front left right : List Token) (whole mid rest : List code_substitute.Substitute) (p q : code_substitute.Substitute) (t : Token) (o : Option (Vec Token Global))
    (both : Vec Token Global) → Gluing all front left (substitutes_of_code whole) → whole ≡ p ∷ mid → p ≡ code.PasteOperator t → mid ≡ q ∷ rest → right ≡ tokens_of (substitute_of_code q)
    → JoinsSides left right (items_of o) → o ≡ Some both → Gluing all front both.items (substitutes_of_code rest)
gluing_both all front left right whole mid rest p q t o both h e f g r j k =
    gluing_pastes all front left both.items t (substitute_of_code q) (substitutes_of_code rest)
    (subst (λ x. Gluing all front left (paste_operator t ∷ substitutes_of_code x)) g (paste_front all front left whole mid p t h e f))
    (subst (λ x. JoinsSides left x (Some both.items)) r (subst (λ x. JoinsSides left right (items_of x)) k j))

pub gluing_none : (pieces : List code_substitute.Substitute) (front left right : List Token) (start whole mid rest : List code_substitute.Substitute) (p q : code_substitute.Substitute) (t : Token) (o : Option (Vec Token Global))
    → start ≡ pieces → Gluing (substitutes_of_code start) front left (substitutes_of_code whole) → whole ≡ p ∷ mid → p ≡ code.PasteOperator t → mid ≡ q ∷ rest → right ≡ tokens_of (substitute_of_code q)
    → JoinsSides left right (items_of o) → o ≡ None → Glues [] (substitutes_of_code pieces) None
gluing_none pieces front left right start whole mid rest p q t o s h e f g r j k =
    subst (λ x. Glues [] (substitutes_of_code x) None) s
    (gluing_fails (substitutes_of_code start) front left t (substitute_of_code q) (substitutes_of_code rest)
    (subst (λ x. Gluing (substitutes_of_code start) front left (paste_operator t ∷ substitutes_of_code x)) g (paste_front (substitutes_of_code start) front left whole mid p t h e f))
    (subst (λ x. JoinsSides left x None) r (subst (λ x. JoinsSides left right (items_of x)) k j)))

pub gluing_done : (pieces start whole : List code_substitute.Substitute) (front left made : List Token) → start ≡ pieces → Gluing (substitutes_of_code start) front left (substitutes_of_code whole) → whole ≡ []
    → made ≡ front ++ left → Glues [] (substitutes_of_code pieces) (Some made)
gluing_done pieces start whole front left made s h e m =
    subst (λ x. Glues [] (substitutes_of_code x) (Some made)) s (subst (λ x. Glues [] (substitutes_of_code start) (Some x)) (sym m)
    (gluing_ends (substitutes_of_code start) front left (subst (λ x. Gluing (substitutes_of_code start) front left (substitutes_of_code x)) e h)))

pub gluing_done_with_paste : (pieces start whole mid : List code_substitute.Substitute) (front left made : List Token) (p : code_substitute.Substitute) (t : Token) → start ≡ pieces
    → Gluing (substitutes_of_code start) front left (substitutes_of_code whole) → whole ≡ p ∷ mid → p ≡ code.PasteOperator t → mid ≡ [] → made ≡ front ++ left → Glues [] (substitutes_of_code pieces) (Some made)
gluing_done_with_paste pieces start whole mid front left made p t s h e f g m =
    subst (λ x. Glues [] (substitutes_of_code x) (Some made)) s (subst (λ x. Glues [] (substitutes_of_code start) (Some x)) (sym m)
    (gluing_ends_with_paste (substitutes_of_code start) front left t
    (subst (λ x. Gluing (substitutes_of_code start) front left (paste_operator t ∷ substitutes_of_code x)) g (paste_front (substitutes_of_code start) front left whole mid p t h e f))))
