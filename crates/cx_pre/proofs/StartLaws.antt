-- The macros before a unit's text.
use Rattle.std.proofs.Common.{◌≡◌, ℕ, ◌+◌, ◌-◌, List, [], ◌∷◌, ◌++◌, Bool, true, false, not, cond, ◌&&◌, ◌==◌, append-nil, append_assoc, add-one, drop, drop-cons, get_or, length, suc, ◌<◌, ◌≤◌, codes, eq-eqb, refl, sym, ap, ◌∙◌, subst, arith, take}
use Rattle.std.proofs.lemmas.Bool.{and_from}
use Rattle.std.proofs.lemmas.Bool.Decides.{nat_tests}
use Rattle.std.proofs.lemmas.List.{drop_all}
use Rattle.cx_base.specs.declared.define.Define.{Define}
use Rattle.cx_base.specs.declared.place.Place.{Place}
use Rattle.cx_tokens.specs.declared.token.Token.{Token}
use Rattle.cx_lex.specs.declared.comment.Comment.{Comment}
use Rattle.cx_lex.specs.declared.piece.Piece.{Piece}
use Rattle.cx_lex.specs.Elements.{lacks}
use Rattle.cx_lex.specs.Lexing.{Lexes, Outcome, lexed, piece_limit, too_long, unclosed_comment}
use Rattle.cx_lex.proofs.Outcomes.{one_outcome_of, some_outcome_of}
use Rattle.cx_tokens.specs.declared.token.Kind.TheVariants.{Number}
use Rattle.cx_table.specs.NameTable.{with_entry}
use Rattle.cx_macro.specs.Expansion.{line_name}
use Rattle.cx_macro.specs.Macros.{Definition, IsDefinition, Table, no_macros}
use Rattle.cx_directive.specs.Defines.{object_like}
use Rattle.cx_directive.specs.Operands.{tokens_of}
use Rattle.cx_pre.specs.declared.config.Config.{Config}
use Rattle.cx_pre.specs.Starts.{AreDefined, HasTokens, IsStart, begins_with_lf, no_more, one_line, one_more, one_token, open_comment, standard_macros, start, too_many, whole, with_definition, with_names}
use Rattle.cx_pre.specs.Shapes.Starting.{AreFront, AreOfLine, IsMade}
use Rattle.cx_pre.proofs.FrontLaws.{FaultFront, fault_front}

-- a text as one line has no newline

line_kept : (t : Bool) (b : ℕ) (more rest : List ℕ) → lacks 10 more ≡ true → lacks 10 rest ≡ true → lacks 10 (cond t more (cond (b == 10) 32 b ∷ rest)) ≡ true
line_kept true b more rest m r = m
line_kept false b more rest m r = and_from _ _ (no_newline b) r
  where
    no_newline : (b : ℕ) → not (cond (b == 10) 32 b == 10) ≡ true
    no_newline b = grind (arith, nat_tests)

pub one_line_lacks : (text : List ℕ) → lacks 10 (one_line text) ≡ true
unfolding one_line
one_line_lacks [] = refl
one_line_lacks (b ∷ bs) = line_kept ((b == 13) && begins_with_lf bs) b (one_line bs) (one_line bs) (one_line_lacks bs) (one_line_lacks bs)

-- every text has tokens

tokens_by : (text : List ℕ) (o : Outcome) → Lexes 0 piece_limit (one_line text) o → FaultFront piece_limit (one_line text) o → (ts : List Token) × HasTokens text ts
tokens_by text (lexed ps ks) h f = (tokens_of ps, whole ks h)
tokens_by text (unclosed_comment at) h f = (tokens_of f.0, open_comment f.1 at h f.2)
tokens_by text (too_long at) h f = (tokens_of f.0, too_many f.1 at h f.2)

pub some_tokens : (text : List ℕ) → (ts : List Token) × HasTokens text ts
some_tokens text =
    let o = some_outcome_of 0 piece_limit (one_line text) in
    tokens_by text o.0 o.1 (fault_front piece_limit (one_line text) o.0 (one_line_lacks text) o.1)

-- and they are determined

same_pieces : (text : List ℕ) (ps qs : List Piece) (ks ls : List Comment) → Lexes 0 piece_limit text (lexed ps ks) → Lexes 0 piece_limit text (lexed qs ls)
    → tokens_of ps ≡ tokens_of qs
same_pieces text ps qs ks ls a b = let e = one_outcome_of 0 piece_limit text (lexed ps ks) (lexed qs ls) a b in let same : ps ≡ qs = cc in ap tokens_of same

same_front : (text : List ℕ) (at other : Place) (ps qs : List Piece) (ks ls : List Comment) → at ≡ other → Lexes 0 piece_limit (take (at.column - 1) text) (lexed ps ks)
    → Lexes 0 piece_limit (take (other.column - 1) text) (lexed qs ls) → tokens_of ps ≡ tokens_of qs
same_front text at other ps qs ks ls e a b =
    same_pieces (take (other.column - 1) text) ps qs ks ls (subst (λ (p : Place). Lexes 0 piece_limit (take (p.column - 1) text) (lexed ps ks)) e a) b

same_open : (at other : Place) → unclosed_comment at ≡ unclosed_comment other → at ≡ other
same_open at other e = cc

same_long : (at other : Place) → too_long at ≡ too_long other → at ≡ other
same_long at other e = cc

pub one_tokens : (text : List ℕ) (a b : List Token) → HasTokens text a → HasTokens text b → a ≡ b
one_tokens text a b (whole {pieces = ps} ks h) (whole {pieces = qs} ls k) = same_pieces (one_line text) ps qs ks ls h k
one_tokens text a b (whole {pieces = ps} ks h) (open_comment {pieces = qs} ls at k f) = absurd cc (one_outcome_of 0 piece_limit (one_line text) (lexed ps ks) (unclosed_comment at) h k)
one_tokens text a b (whole {pieces = ps} ks h) (too_many {pieces = qs} ls at k f) = absurd cc (one_outcome_of 0 piece_limit (one_line text) (lexed ps ks) (too_long at) h k)
one_tokens text a b (open_comment {pieces = ps} ks at h f) (whole {pieces = qs} ls k) = absurd cc (one_outcome_of 0 piece_limit (one_line text) (unclosed_comment at) (lexed qs ls) h k)
one_tokens text a b (open_comment {pieces = ps} ks at h f) (open_comment {pieces = qs} ls other k g) =
    same_front (one_line text) at other ps qs ks ls (same_open at other (one_outcome_of 0 piece_limit (one_line text) (unclosed_comment at) (unclosed_comment other) h k)) f g
one_tokens text a b (open_comment {pieces = ps} ks at h f) (too_many {pieces = qs} ls other k g) =
    absurd cc (one_outcome_of 0 piece_limit (one_line text) (unclosed_comment at) (too_long other) h k)
one_tokens text a b (too_many {pieces = ps} ks at h f) (whole {pieces = qs} ls k) = absurd cc (one_outcome_of 0 piece_limit (one_line text) (too_long at) (lexed qs ls) h k)
one_tokens text a b (too_many {pieces = ps} ks at h f) (open_comment {pieces = qs} ls other k g) =
    absurd cc (one_outcome_of 0 piece_limit (one_line text) (too_long at) (unclosed_comment other) h k)
one_tokens text a b (too_many {pieces = ps} ks at h f) (too_many {pieces = qs} ls other k g) =
    same_front (one_line text) at other ps qs ks ls (same_long at other (one_outcome_of 0 piece_limit (one_line text) (too_long at) (too_long other) h k)) f g

-- definitions

one_defined : (macros : Table) (ds : List Define) (a b : Table) → AreDefined macros ds a → AreDefined macros ds b → a ≡ b
one_defined macros [] a b no_more no_more = refl
one_defined macros (d ∷ ds) a b (one_more body h more) (one_more other k others) =
    one_defined (with_definition d.name (object_like other) macros) ds a b
    (subst (λ body. AreDefined (with_definition d.name (object_like body) macros) ds a) (one_tokens d.value body other h k) more) others

some_defined : (macros : Table) (ds : List Define) → (after : Table) × AreDefined macros ds after
some_defined macros [] = (macros, no_more)
some_defined macros (d ∷ ds) =
    let t = some_tokens d.value in let rest = some_defined (with_definition d.name (object_like t.0) macros) ds in (rest.0, one_more t.0 t.1 rest.1)

-- the macros before a unit's text are determined by the configuration
pub one_start : (config : Config) (a b : Table) → IsStart config a → IsStart config b → a ≡ b
one_start config a b (start {macros = macros} h) (start {macros = others} k) = ap (with_names config.names) (one_defined standard_macros config.defines macros others h k)

-- and each configuration has some
pub some_start : (config : Config) → (macros : Table) × IsStart config macros
some_start config = let d = some_defined standard_macros config.defines in (with_names config.names d.0, start d.1)

-- a macro without parameters can be one
pub object_fits : (body : List Token) → IsDefinition (object_like body)
object_fits body = record { distinct = tt; variable = λ e. absurd cc; hashes = λ e. absurd cc }

-- the standard macros, defined one by one

standard_of : with_entry (codes "__STDC_VERSION__") (one_token Number (codes "201112L"))
    (with_entry (codes "__STDC__") (one_token Number (codes "1")) (with_entry line_name (object_like []) no_macros)) ≡ standard_macros
unfolding with_entry standard_macros
standard_of = refl

pub standard_is : (m0 m1 m2 m3 : Table) (d1 d2 d3 : Definition) → m0 ≡ no_macros → d1 ≡ object_like [] → m1 ≡ with_entry line_name d1 m0
    → d2 ≡ one_token Number (codes "1") → m2 ≡ with_entry (codes "__STDC__") d2 m1
    → d3 ≡ one_token Number (codes "201112L") → m3 ≡ with_entry (codes "__STDC_VERSION__") d3 m2 → m3 ≡ standard_macros
standard_is m0 m1 m2 m3 d1 d2 d3 e0 k1 e1 k2 e2 k3 e3 = rw (e3, k3, e2, k2, e1, k1, e0) standard_of

-- a text as one line, byte by byte

pub line_skips : (old : List ℕ) (b : ℕ) (bs : List ℕ) → b ≡ 13 → begins_with_lf bs ≡ true → old ++ one_line bs ≡ old ++ one_line (b ∷ bs)
unfolding one_line
line_skips old b bs e h = let t : (b == 13) ≡ true = eq-eqb b 13 e in rw (t, h) refl

pub line_goes_on : (old : List ℕ) (b : ℕ) (bs : List ℕ) → ((b == 13) && begins_with_lf bs) ≡ false
    → (old ++ (cond (b == 10) 32 b) ∷ []) ++ one_line bs ≡ old ++ one_line (b ∷ bs)
unfolding one_line
line_goes_on old b bs e = rw e (append_assoc old ((cond (b == 10) 32 b) ∷ []) (one_line bs))

-- what is read of a line

abbrev Says : List ℕ → Outcome → Type 0
Says line o = Lexes 0 piece_limit line o

pub whole_line : (line : List ℕ) (ps : List Piece) (ks : List Comment) → Says line (lexed ps ks) → AreOfLine line ps
whole_line line ps ks h = λ text e. whole ks (subst (λ l. Says l (lexed ps ks)) (sym e) h)

pub open_line : (line : List ℕ) (at : Place) (ps : List Piece) → Says line (unclosed_comment at) → AreFront line at ps → AreOfLine line ps
open_line line at ps h f = λ text e.
    open_comment f.0 at (subst (λ l. Says l (unclosed_comment at)) (sym e) h)
    (subst (λ l. Says (take (at.column - 1) l) (lexed ps f.0)) (sym e) f.1)

pub long_line : (line : List ℕ) (at : Place) (ps : List Piece) → Says line (too_long at) → AreFront line at ps → AreOfLine line ps
long_line line at ps h f = λ text e.
    too_many f.0 at (subst (λ l. Says l (too_long at)) (sym e) h)
    (subst (λ l. Says (take (at.column - 1) l) (lexed ps f.0)) (sym e) f.1)

-- definitions one by one

pub one_made : (old new : Table) (made : Define) (body tokens : List Token) (d : Definition) → HasTokens made.value body → d ≡ object_like body
    → new ≡ with_definition made.name d old → IsMade old made new
one_made old new made body tokens d h e f = (body, h, f ∙ ap (λ x. with_definition made.name x old) e)

front_of : {X : Type 0} (xs : List X) (i : ℕ) (x : X) → i < length xs → x ≡ get_or xs i x → drop i xs ≡ x ∷ drop (i + 1) xs
front_of xs i x below at = drop-cons xs i x below ∙ ap (λ y. y ∷ drop (suc i) xs) (sym at) ∙ ap (λ k. x ∷ drop k xs) (sym (add-one i))

-- what the definitions behind come to is what all come to
abbrev pub ComesTo : Table → List Define → Table → List Define → Type 0
ComesTo macros ds first all = (after : Table) → AreDefined macros ds after → AreDefined first all after

pub next_made : (old new first : Table) (all : List Define) (i : ℕ) (made : Define) → i < length all → made ≡ get_or all i made
    → ComesTo old (drop i all) first all → IsMade old made new → ComesTo new (drop (i + 1) all) first all
next_made old new first all i made below at h m = λ after k.
    h after
    (subst (λ ds. AreDefined old ds after) (sym (front_of all i made below at))
    (one_more m.0 m.1 (subst (λ t. AreDefined t (drop (i + 1) all) after) m.2 k)))

pub all_made : (macros first : Table) (all : List Define) (i : ℕ) → length all ≤ i → ComesTo macros (drop i all) first all → AreDefined first all macros
all_made macros first all i past h = h macros (subst (λ ds. AreDefined macros ds macros) (sym (drop_all i all past)) no_more)

pub next_name : (old new after : Table) (names : List (List ℕ)) (i : ℕ) (name : List ℕ) → i < length names → name ≡ get_or names i name
    → with_names (drop i names) old ≡ after → new ≡ with_definition name (one_token Number (codes "1")) old → with_names (drop (i + 1) names) new ≡ after
unfolding with_names
next_name old new after names i name below at h e =
    ap (with_names (drop (i + 1) names)) e ∙ ap (λ ns. with_names ns old) (sym (front_of names i name below at)) ∙ h

pub all_named : (macros after : Table) (names : List (List ℕ)) (i : ℕ) → length names ≤ i → with_names (drop i names) macros ≡ after → macros ≡ after
unfolding with_names
all_named macros after names i past h = ap (λ ns. with_names ns macros) (sym (drop_all i names past)) ∙ h

pub line_ends : (line text rest : List ℕ) → length rest ≡ 0 → line ++ one_line rest ≡ one_line text → line ≡ one_line text
unfolding one_line
line_ends line text [] e h = sym (append-nil line) ∙ h
line_ends line text (b ∷ bs) e h = absurd (omega arith)

pub starts : (config : Config) (m0 m1 m2 : Table) → m0 ≡ standard_macros → AreDefined m0 config.defines m1 → m2 ≡ with_names config.names m1 → IsStart config m2
starts config m0 m1 m2 e h f = subst (IsStart config) (sym f) (start (subst (λ m. AreDefined m config.defines m1) e h))
