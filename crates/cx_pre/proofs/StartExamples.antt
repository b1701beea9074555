-- What a macro of a configuration is read as, computed.
use Rattle.std.proofs.Common.{◌≡◌, [], ◌∷◌, codes, refl}
use Rattle.cx_tokens.specs.declared.token.Kind.TheVariants.{Number, String}
use Rattle.cx_table.specs.NameTable.{with_entry}
use Rattle.cx_macro.specs.Expansion.{line_name}
use Rattle.cx_directive.specs.Defines.{object_like}
use Rattle.cx_pre.specs.Starts.{escaped, file_macro, one_line, one_token, standard_macros, with_names, without_definition}

-- each newline of a value is a space, and a carriage return alone stays
line_of_lines : one_line (49 ∷ 10 ∷ 50 ∷ 13 ∷ 10 ∷ 51 ∷ 13 ∷ 52 ∷ 13 ∷ 13 ∷ 10 ∷ []) ≡ 49 ∷ 32 ∷ 50 ∷ 32 ∷ 51 ∷ 13 ∷ 52 ∷ 13 ∷ 32 ∷ []
unfolding one_line
line_of_lines = refl

-- a `\` before each `"` and each `\` of a path
escaped_path : escaped (codes "a\"b\\c") ≡ codes "a\\\"b\\\\c"
escaped_path = refl

file_of_path : file_macro (codes "d\\a.c") ≡ one_token String (codes "\"d\\\\a.c\"")
unfolding file_macro
file_of_path = refl

-- names are defined as 1, also one of the standard's, but neither `__FILE__` nor `__LINE__`
names_defined : with_names (codes "A" ∷ codes "__STDC__" ∷ codes "__LINE__" ∷ codes "__FILE__" ∷ []) standard_macros
    ≡ (line_name, object_like []) ∷ (codes "__STDC__", one_token Number (codes "1"))
    ∷ (codes "__STDC_VERSION__", one_token Number (codes "201112L")) ∷ (codes "A", one_token Number (codes "1")) ∷ []
unfolding with_names with_entry standard_macros
names_defined = refl

-- and these two are not undefined
line_stays : without_definition line_name standard_macros ≡ standard_macros
line_stays = refl
