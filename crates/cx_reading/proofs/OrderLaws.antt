-- The tokens of rows and types that are read are those of their trees, in order.
use Rattle.std.proofs.Common.{◌≡◌, refl, sym, ◌∙◌, ℕ, List, ◌++◌, map, Some, append_assoc}
use Rattle.cx_syntax_tree.specs.declared.terminals.Keyword.{Keyword}
use Rattle.cx_syntax_tree.specs.declared.terminals.Keyword.TheVariants as word
use Rattle.cx_syntax_tree.specs.declared.terminals.Terminal.{Terminal}
use Rattle.cx_syntax_tree.specs.declared.terminals.Terminal.TheVariants as terminal_is
use Rattle.cx_syntax_tree.specs.declared.terminals.Lexeme.{Lexeme}
use Rattle.cx_syntax_tree.specs.declared.expressions.Specifier.{Specifier}
use Rattle.cx_syntax_tree.specs.declared.expressions.SpecifierAt.{SpecifierAt}
use Rattle.cx_syntax_tree.specs.Written.{untyped, untyped_terminal, worded, named, joined, specifier_word, bare_words, star, stars_of, type_written}
use Rattle.cx_terminals.specs.Terminals.{any_name}
use Rattle.cx_reading.specs.Rules.{Relation, Many, no_more, one_more}
use Rattle.cx_reading.specs.Types.{specifier_of, IsSpecifier, a_specifier, IsKeyword, a_keyword, IsTagName, a_tag, IsBareWords, void, integer, struct_tag, enum_tag, type_name, IsConst, a_const, IsStar, a_star, IsStars, some_stars, IsType, a_type}
use Rattle.cx_reading.specs.Agreement.{InOrder}

pub row_in_order : {A : Type 0} (written : A → List Lexeme) (R : Relation A) → InOrder written R
    → {ts rest : List Lexeme} {xs : List A} → Many R ts xs rest
    → map untyped ts ≡ joined (map written xs) ++ map untyped rest
unfolding joined
row_in_order written R f no_more = refl
row_in_order written R f (one_more {ts} {mid} {rest} {x} {xs} i m) =
    f ts x mid i ∙ rw (row_in_order written R f m)
    (sym (append_assoc (written x) (joined (map written xs)) (map untyped rest)))

specifier_back : (k : Keyword) (s : Specifier) → specifier_of k ≡ Some s → specifier_word s ≡ k
specifier_back word.Typedef s e = cc
specifier_back word.Static s e = cc
specifier_back word.Extern s e = cc
specifier_back word.Const s e = cc
specifier_back _ s e = absurd cc

specifier_in_order : InOrder (λ t. worded (specifier_word t.specifier) t.at) IsSpecifier
specifier_in_order _ x rest (a_specifier {p = p} {k = k} {s = s} is of e) =
    rw (e, is, specifier_back k s of) refl

keyword_in_order : InOrder (λ k. worded k.keyword k.at) IsKeyword
keyword_in_order _ x rest (a_keyword is e) = rw (e, is) refl

const_in_order : InOrder (worded word.Const) IsConst
const_in_order _ x rest (a_const is e) = rw (e, is) refl

star_in_order : InOrder star IsStar
star_in_order _ x rest (a_star {p = p} is m e) =
    rw (e, row_in_order (worded word.Const) IsConst const_in_order m, is) refl

tag_terminal : (t : Terminal) (n : ℕ) → any_name t ≡ Some n → untyped_terminal t ≡ terminal_is.Name n
tag_terminal (terminal_is.Name m) n e = cc
tag_terminal (terminal_is.TypeName m) n e = cc
tag_terminal _ n e = absurd cc

pub tag_in_order : InOrder named IsTagName
tag_in_order _ x rest (a_tag {p = p} {n = n} is e) = rw (e, tag_terminal p.terminal n is) refl

pub words_in_order : InOrder bare_words IsBareWords
words_in_order _ x rest (void is e) = rw (e, is) refl
words_in_order ts x rest (integer m is e) =
    rw e (row_in_order (λ k. worded k.keyword k.at) IsKeyword keyword_in_order m)
words_in_order _ x rest (struct_tag {ts = ts} {tag = tag} is t e) =
    rw (e, tag_in_order ts tag rest t, is) refl
words_in_order _ x rest (enum_tag {ts = ts} {tag = tag} is t e) =
    rw (e, tag_in_order ts tag rest t, is) refl
words_in_order _ x rest (type_name is e) = rw (e, is) refl

pub stars_in_order : InOrder stars_of IsStars
stars_in_order ts x rest (some_stars m e) = rw e (row_in_order star IsStar star_in_order m)

pub specifiers_in_order : {ts rest : List Lexeme} {xs : List SpecifierAt} → Many IsSpecifier ts xs rest
    → map untyped ts ≡ joined (map (λ t. worded (specifier_word t.specifier) t.at) xs)
    ++ map untyped rest
specifiers_in_order m =
    row_in_order (λ t. worded (specifier_word t.specifier) t.at) IsSpecifier specifier_in_order m

pub type_in_order : InOrder type_written IsType
unfolding type_written
type_in_order ts x rest (a_type {us = us} {vs = vs} {ws = ws} {w = w} {stars = s} a b c o d e) =
    rw (
      e,
      specifiers_in_order a,
      words_in_order us w vs b,
      specifiers_in_order c,
      stars_in_order ws s rest d,
    ) (simp append_assoc)
