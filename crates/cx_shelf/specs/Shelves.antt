-- The files that there are.
use Rattle.std.specs.Prelude.{ℕ, List, [], Option, Some, None, bytes_eq, position, slice_get}
use Rattle.cx_lex.specs.declared.piece.Piece.{Piece}
use Rattle.cx_shelf.specs.declared.shelf.Shelf.{Shelf}
use Rattle.cx_shelf.specs.declared.shelf.Shelved.{Shelved}

-- the number of the file with a path
unfoldable pub number_of : Shelf → List ℕ → Option ℕ
number_of shelf path = position (λ f. bytes_eq f.path path) shelf.files

abbrev pub pieces_in : Option Shelved → List Piece
pieces_in None = []
pieces_in (Some f) = f.lexed.pieces

-- the pieces of the file with a number
unfoldable pub pieces_of : Shelf → ℕ → List Piece
pieces_of shelf file = pieces_in (slice_get shelf.files file)

abbrev pub path_in : Option Shelved → List ℕ
path_in None = []
path_in (Some f) = f.path

-- the path of the file with a number
unfoldable pub path_of : Shelf → ℕ → List ℕ
path_of shelf file = path_in (slice_get shelf.files file)
