-- The characters of a source, without its deleted newlines (C11 5.1.1.2, phases 1 and 2).
use Rattle.std.specs.Prelude.{ℕ, ◌+◌, List, [], ◌∷◌, Bool, false, ◌&&◌, ◌||◌, ◌==◌, if◌then◌else◌, map}
use Rattle.cx_base.specs.declared.place.Place.{Place}
use Rattle.cx_lex.specs.declared.character.Character.{Character}

-- the greatest line and column of a place, so that a text is to have fewer bytes
abbrev pub place_limit : ℕ
place_limit = 4294967295

abbrev pub file_start : ℕ → Place
file_start file = record { file = file; line = 1; column = 1 }

abbrev pub next_line : Place → Place
next_line at = record { file = at.file; line = at.line + 1; column = 1 }

abbrev pub next_column : Place → Place
next_column at = record { file = at.file; line = at.line; column = at.column + 1 }

-- the place after a byte that stands at a place
unfoldable pub place_after : Place → ℕ → Place
place_after at b = if b == 10 then next_line at else next_column at

abbrev pub begins_with : ℕ → List ℕ → Bool
begins_with b [] = false
begins_with b (c ∷ cs) = b == c

-- a newline stands in front: the byte 10, or 13 and 10
abbrev pub begins_with_newline : List ℕ → Bool
begins_with_newline [] = false
begins_with_newline (b ∷ bs) = (b == 10) || ((b == 13) && begins_with 10 bs)

unfoldable mutual
  -- The characters of a text that begins at a place. A backslash (92) directly before a newline is
  -- deleted with it.
  pub characters : Place → List ℕ → List Character
  characters at [] = []
  characters at (b ∷ bs) =
      if (b == 92) && begins_with_newline bs
      then characters_after_newline (next_line at) bs
      else
      (record { code = b; in_newline = begins_with_newline (b ∷ bs); place = at })
      ∷ characters (place_after at b) bs

  -- those after the newline in front, whose last byte is 10
  pub characters_after_newline : Place → List ℕ → List Character
  characters_after_newline at [] = []
  characters_after_newline at (b ∷ bs) =
      if b == 10 then characters at bs else characters_after_newline at bs

-- the characters of a file
abbrev pub file_characters : ℕ → List ℕ → List Character
file_characters file text = characters (file_start file) text

abbrev pub bytes_of : List Character → List ℕ
bytes_of cs = map (λ c. c.code) cs
