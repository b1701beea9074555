-- From the outcome that a function reads to what its answer means.
use Rattle.std.proofs.Common.{◌≡◌, refl, sym, ◌∙◌, List, Option, Some, Result, Ok, Err}
use Rattle.std.specs.Prelude.{IfOk}
use Rattle.cx_syntax_tree.specs.declared.terminals.Lexeme.{Lexeme}
use Rattle.cx_reading.specs.declared.refusal.Refusal.{Refusal}
use Rattle.cx_reading.specs.declared.refusal.Refusal.TheVariants as refusal_is
use Rattle.cx_reading.specs.Rules.{Relation}
use Rattle.cx_reading.specs.Parsing.{Parser, Reads, Gives}
use Rattle.cx_reading.specs.Agreement.{Law}
use Rattle.cx_reading.proofs.TokenLaws.{some_same}

pub gives_of_reads : {A : Type 0} (o : Option (A × List Lexeme)) (r : Result A Refusal)
    (new : List Lexeme) (a : A) (rest : List Lexeme) → Reads o r new → o ≡ Some (a, rest)
    → Gives a rest r new
gives_of_reads o (Ok x) new a rest reads e = some_same x a new rest (sym reads ∙ e)
gives_of_reads o (Err refusal_is.Syntax) new a rest reads e =
    let gone = reads refl in absurd cc
gives_of_reads o (Err refusal_is.NoMemory) new a rest reads e = refl

pub found_of_reads : {A : Type 0} {Begins Ends : List Lexeme → Type 0} {p : Parser A}
    {R : Relation A} → Law Begins Ends p R → (old new : List Lexeme) (r : Result A Refusal)
    → Reads (p old) r new → IfOk r (λ x. R old x new)
found_of_reads law old new (Ok x) reads = law.sound old x new reads
found_of_reads law old new (Err e) reads = tt

pub only_of_reads : {A : Type 0} {Begins Ends : List Lexeme → Type 0} {p : Parser A}
    {R : Relation A} → Law Begins Ends p R → (old new : List Lexeme) (r : Result A Refusal)
    → Reads (p old) r new → (x : A) (rest : List Lexeme) → R old x rest → Ends rest
    → Gives x rest r new
only_of_reads {p = p} law old new r reads x rest h e =
    gives_of_reads (p old) r new x rest reads (law.complete old x rest h e)

-- tokens are read as one tree at most
pub one_of_law : {A : Type 0} {Begins Ends : List Lexeme → Type 0} {p : Parser A}
    {R : Relation A} → Law Begins Ends p R → (ts : List Lexeme) (a b : A) (us vs : List Lexeme)
    → R ts a us → R ts b vs → Ends us → Ends vs → (a ≡ b) × (us ≡ vs)
one_of_law law ts a b us vs h i e f =
    some_same a b us vs (sym (law.complete ts a us h e) ∙ law.complete ts b vs i f)
