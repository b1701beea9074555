-- The built-in library as the code makes it, from tables. What comes out is `built_in` of
-- specs/BuiltIn.antt: the function `built_in` ensures it.
use Rattle.std.specs.Prelude.{ℕ, ◌+◌, ◌-◌, Bool, List, codes}
use Rattle.cx_library.specs.declared.described.Described.{Described}
use Rattle.cx_library.specs.declared.standard.Manner.{Manner}
use Rattle.cx_library.specs.declared.standard.Manner.TheVariants.{NeverReturns, ResultUsed, Prints, Measures}
use Rattle.cx_library.specs.BuiltIn.{measuring, never_returning, printing, result_used}
use Rattle.cx_library.specs.Known.{allocating, describing, freeing}
use Rattle.cx_library.specs.Library.{Contents, define_of, with_define, with_function, with_group, with_pod}

abbrev pub described_by : Manner → Described
described_by NeverReturns = never_returning
described_by ResultUsed = result_used
described_by Prints = printing
described_by Measures = measuring

-- a library with the function, the macro or the podtype of a row
abbrev pub with_row : Contents → List ℕ → Manner → Contents
with_row library name manner = with_function name (describing (described_by manner)) library

abbrev pub with_macro : Contents → List ℕ → List ℕ → Contents
with_macro library name text = with_define (define_of (name, text)) library

abbrev pub with_type : Contents → List ℕ → Bool → ℕ → Contents
with_type library name signed bytes =
    with_pod name (record { signed = signed; bytes = bytes }) library

-- with the memory group of `malloc`, `calloc` and `free`
abbrev pub with_memory : Contents → Contents
with_memory library =
    let group = library.groups + 1 - 1 in
    with_function (codes "free") (freeing group)
    (with_function (codes "calloc") (allocating group)
    (with_function (codes "malloc") (allocating group) (with_group library)))
