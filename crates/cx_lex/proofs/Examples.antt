-- Examples of the definitions of this crate, above all those that C11 (ISO/IEC 9899:2011) 6.4 prints.
use Rattle.std.proofs.Common.{◌≡◌, ℕ, List, [], ◌∷◌, true, false, refl, codes, map, inl, inr}
use Rattle.std.proofs.lemmas.List.Elements.{All-nil, All-cons}
use Rattle.cx_base.specs.declared.place.Place.{Place}
use Rattle.cx_tokens.specs.declared.token.Kind.TheVariants.{Name, Number, Punct}
use Rattle.cx_lex.specs.declared.before.Directive.TheVariants.{Nothing, Hash, Include}
use Rattle.cx_lex.specs.declared.character.Character.{Character}
use Rattle.cx_lex.specs.Characters.{is_digit, is_nondigit, is_word}
use Rattle.cx_lex.specs.Elements.{AreMembers, IsComment, IsHeaderName, IsMember, IsOtherByte, IsQuoted, IsUnclosed, StandsNowhere, directive_after, is_separator}
use Rattle.cx_lex.specs.Forms.{IsLongest, IsToken, goes_on, punctuators}
use Rattle.cx_lex.specs.Lines.{characters, file_start, place_after}
use Rattle.cx_lex.specs.WholeText.{without_deleted}
use Rattle.cx_lex.specs.Shapes.Quotes.{within_quotes}
use Rattle.cx_lex.proofs.LongestLaws.{table_contains}
use Rattle.cx_lex.proofs.MemberLaws.{members_within}

-- characters (C11 5.2.1 and 6.4.2.1)

digits : map is_digit (codes "/09:") ≡ false ∷ true ∷ true ∷ false ∷ []
unfolding is_digit
digits = refl

nondigits : map is_nondigit (codes "@AZ[_`az{0") ≡ false ∷ true ∷ true ∷ false ∷ true ∷ false ∷ true ∷ true ∷ false ∷ false ∷ []
unfolding is_nondigit
nondigits = refl

words : map is_word (codes "a0_$") ≡ true ∷ true ∷ true ∷ false ∷ []
unfolding is_word is_nondigit is_digit
words = refl

-- deleted newlines (C11 5.1.1.2, phase 2)

abbrev at : ℕ → ℕ → Place
at line column = record { file = 0; line = line; column = column }

abbrev plain : ℕ → Place → Character
plain code place = record { code = code; in_newline = false; place = place }

abbrev of_newline : ℕ → Place → Character
of_newline code place = record { code = code; in_newline = true; place = place }

-- `a`, a backslash and a newline, `b`: the `b` stands on line 2
deleted_newline : characters (file_start 0) (97 ∷ 92 ∷ 10 ∷ 98 ∷ []) ≡ plain 97 (at 1 1) ∷ plain 98 (at 2 1) ∷ []
unfolding characters place_after
deleted_newline = refl

-- the same with a newline of two bytes, and twice
deleted_two : characters (file_start 0) (92 ∷ 13 ∷ 10 ∷ 92 ∷ 10 ∷ 98 ∷ []) ≡ plain 98 (at 3 1) ∷ []
unfolding characters place_after
deleted_two = refl

-- a backslash directly before the backslash of a deleted newline stays, and so does one before 13 alone
kept_backslash : characters (file_start 0) (92 ∷ 92 ∷ 10 ∷ 92 ∷ 13 ∷ []) ≡ plain 92 (at 1 1) ∷ plain 92 (at 2 1) ∷ plain 13 (at 2 2) ∷ []
unfolding characters place_after
kept_backslash = refl

-- both bytes of a newline belong to it
newline_of_two : characters (file_start 0) (13 ∷ 10 ∷ 98 ∷ []) ≡ of_newline 13 (at 1 1) ∷ of_newline 10 (at 1 2) ∷ plain 98 (at 2 1) ∷ []
unfolding characters place_after
newline_of_two = refl

text_without : without_deleted (97 ∷ 92 ∷ 13 ∷ 10 ∷ 92 ∷ 98 ∷ 10 ∷ []) ≡ 97 ∷ 92 ∷ 98 ∷ 10 ∷ []
unfolding without_deleted
text_without = refl

-- forms (C11 6.4.2, 6.4.6 and 6.4.8)

identifier : IsToken Name (codes "x1")
unfolding is_nondigit is_word is_digit
identifier = (refl, refl)

-- the preprocessing number of C11 6.4, paragraph 5
one_number : IsToken Number (codes "1Ex")
unfolding is_nondigit is_word is_digit goes_on
one_number = inl (refl, (refl, (refl, tt)))

number_with_sign : IsToken Number (codes ".5e+1")
unfolding is_nondigit is_word is_digit goes_on
number_with_sign = inr (codes "5e+1", refl, (refl, (refl, (refl, (refl, tt)))))

-- a sign comes after `e` alone
no_sign : goes_on 49 43 ≡ false
unfolding is_nondigit is_word is_digit goes_on
no_sign = refl

-- of `++` the first `+` is not the longest (C11 6.4, paragraph 4)
not_longest : ¬ IsLongest (codes "+") (codes "+y")
not_longest h = let e = h Punct (codes "+") (codes "y") refl (table_contains (codes "++") refl) in cc

-- literals (C11 6.4.4.4 and 6.4.5)

backslashes : AreMembers 39 (92 ∷ 92 ∷ [])
backslashes = ((92 ∷ 92 ∷ []) ∷ [], All-cons (IsMember 39) (92 ∷ 92 ∷ []) [] (inr (92, refl)) (All-nil (IsMember 39)), refl)

-- a backslash in quotes
quoted_backslash : IsQuoted 39 (39 ∷ 92 ∷ 92 ∷ 39 ∷ [])
quoted_backslash = (92 ∷ 92 ∷ [], refl, backslashes)

-- a backslash alone is no member: it pairs with the byte after it
no_member : ¬ AreMembers 39 (92 ∷ [])
unfolding within_quotes
no_member h = let e = members_within 39 (92 ∷ []) [] refl h in cc

-- nor is a quote
no_quote : ¬ AreMembers 34 (34 ∷ [])
unfolding within_quotes
no_quote h = let e = members_within 34 (34 ∷ []) [] refl h in cc

-- a quote, and a backslash at the end of the line
unclosed : IsUnclosed (39 ∷ 92 ∷ [])
unclosed = (refl, inr ([], refl, ([], All-nil (IsMember 39), refl)))

header_name : IsHeaderName (codes "<1/a.h>")
header_name = (codes "1/a.h", inl (refl, refl))

-- a byte with which nothing else begins
other_byte : IsOtherByte (codes "@")
unfolding is_nondigit is_digit punctuators
other_byte = (refl, refl, refl, λ text h. cc)

-- what separates (C11 6.4, paragraph 3)
separators : map (λ b. is_separator (plain b (at 1 1))) (9 ∷ 11 ∷ 12 ∷ 13 ∷ 32 ∷ 33 ∷ []) ≡ true ∷ true ∷ true ∷ false ∷ true ∷ false ∷ []
unfolding is_separator
separators = refl

-- comments (C11 6.4.9)

no_end : StandsNowhere (codes "*/") (codes "//*")
no_end = (λ h. (let e = h.1 in cc), (λ h. (let e = h.1 in cc), (λ h. (let e = h.1 in cc), tt)))

on_line : List ℕ → List Character
on_line bytes = map (λ b. plain b (at 1 1)) bytes

-- the comment of the text `/*//*/ l();`
block_comment : IsComment (on_line (codes "/*")) (on_line (codes "//")) (on_line (codes "*/")) (on_line (codes " l();"))
unfolding on_line
block_comment = inr (refl, refl, no_end)

-- include lines (C11 6.10.2)
directives : directive_after Nothing Punct (codes "#") ∷ directive_after Hash Name (codes "include") ∷ directive_after Hash Name (codes "define")
    ∷ directive_after Nothing Name (codes "include") ∷ [] ≡ Hash ∷ Include ∷ Nothing ∷ Nothing ∷ []
unfolding directive_after
directives = refl
