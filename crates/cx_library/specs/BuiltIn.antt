-- The library that is built in.
use Rattle.std.specs.Prelude.{ℕ, List, [], ◌∷◌, true, false, Some, codes}
use Rattle.cx_table.specs.NameTable.{Entries}
use Rattle.cx_library.specs.declared.described.ArgNr.TheVariants.{Number, Variadic}
use Rattle.cx_library.specs.declared.described.ArgRule.{ArgRule}
use Rattle.cx_library.specs.declared.described.Described.{Described}
use Rattle.cx_library.specs.declared.described.Direction.TheVariants.{In}
use Rattle.cx_library.specs.declared.known.Known.{Known}
use Rattle.cx_library.specs.declared.pod.Pod.{Pod}
use Rattle.cx_library.specs.Known.{undescribed, unknown}
use Rattle.cx_library.specs.Library.{Contents}

-- the function never returns
abbrev pub never_returning : Described
never_returning = record undescribed { noreturn = true }

-- its result has to be used
abbrev pub result_used : Described
result_used = record undescribed { must_use_result = true }

-- the first argument is read, and is not null
abbrev pub first_not_null : ArgRule
first_not_null = record {
  nr = Number 1;
  direction = In;
  not_null = true;
  not_uninit = false;
  ranges = [];
  valid = [];
}

-- the arguments behind those that have a number are read
abbrev pub others_read : ArgRule
others_read = record {
  nr = Variadic;
  direction = In;
  not_null = false;
  not_uninit = false;
  ranges = [];
  valid = [];
}

-- it prints its arguments
abbrev pub printing : Described
printing = record undescribed { args = first_not_null ∷ others_read ∷ [] }

-- it gives a size, has no other effect, and its result has to be used
abbrev pub measuring : Described
measuring = record undescribed {
  must_use_result = true;
  pure = true;
  returns = Some (record { names = codes "size_t"; stars = 0 });
  args = first_not_null ∷ [];
}

-- a `function` element says this
abbrev pub stated : Described → Known
stated d = record { described = d; stated = true }

abbrev pub functions : Entries Known
functions =
    (codes "exit", stated never_returning)
    ∷ (codes "abort", stated never_returning)
    ∷ (codes "malloc", stated (record result_used { allocates = Some 0 }))
    ∷ (codes "calloc", stated (record result_used { allocates = Some 0 }))
    ∷ (codes "printf", stated printing)
    ∷ (codes "puts", stated printing)
    ∷ (codes "strlen", stated measuring)
    ∷ (codes "free", record unknown { described = record undescribed { frees = Some 0 } }) ∷ []

abbrev pub defines : Entries (List ℕ)
defines =
    (codes "NULL", codes "0")
    ∷ (codes "bool", codes "_Bool")
    ∷ (codes "true", codes "1")
    ∷ (codes "false", codes "0")
    ∷ (codes "INT_MAX", codes "2147483647")
    ∷ (codes "INT_MIN", codes "(-2147483647-1)")
    ∷ (codes "UINT_MAX", codes "4294967295u")
    ∷ (codes "CHAR_BIT", codes "8")
    ∷ (codes "EXIT_SUCCESS", codes "0")
    ∷ (codes "EXIT_FAILURE", codes "1") ∷ []

abbrev pub pods : Entries Pod
pods =
    (codes "int8_t", record { signed = true; bytes = 1 })
    ∷ (codes "uint8_t", record { signed = false; bytes = 1 })
    ∷ (codes "int16_t", record { signed = true; bytes = 2 })
    ∷ (codes "uint16_t", record { signed = false; bytes = 2 })
    ∷ (codes "int32_t", record { signed = true; bytes = 4 })
    ∷ (codes "uint32_t", record { signed = false; bytes = 4 })
    ∷ (codes "int64_t", record { signed = true; bytes = 8 })
    ∷ (codes "uint64_t", record { signed = false; bytes = 8 }) ∷ []

-- the built-in library
unfoldable pub built_in : Contents
built_in = record { functions = functions; groups = 1; defines = defines; pods = pods }
