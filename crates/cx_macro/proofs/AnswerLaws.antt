-- What an expansion answers is the one outcome.
use Rattle.std.proofs.Common.{◌≡◌, ◌≢◌, ℕ, ◌+◌, ◌≤◌, List, inl, inr, Result, Ok, Err, IfErr, IfOk, length, refl, ◌∙◌, ap, subst}
use Rattle.cx_tokens.specs.declared.token.Token.{Token}
use Rattle.cx_tokens.specs.Nodes.{tokens}
use Rattle.cx_macro.specs.declared.fault.MacroFault.{MacroFault}
use Rattle.cx_macro.specs.declared.fault.MacroFault.TheVariants.{ArgumentCount, BadPaste, NoMemory, TooManyTokens, UnclosedCall}
use Rattle.cx_macro.specs.declared.macros.Expanded.{Expanded}
use Rattle.cx_macro.specs.Answers.{Answers}
use Rattle.cx_macro.specs.Expansion.{Expands, ExpandsList, Outcome, expanded, refused, within}
use Rattle.cx_macro.specs.Macros.{Table}
use Rattle.cx_macro.proofs.OutcomeLaws.{list_same}
use Rattle.cx_macro.proofs.PieceLaws.{one_piece}

pub list_within : (table : Table) (bound laid first : ℕ) (list view ahead : List Token) (o : Outcome) → first ≡ laid + length view → first ≤ bound → view ≡ list
    → ahead ≡ list → Expands table bound first ahead o → ExpandsList table bound laid list o
list_within table bound laid first list view ahead o e le f g h =
    let count : first ≡ laid + length list = e ∙ ap (λ x. laid + length x) f in
    within (subst (λ n. n ≤ bound) count le) (subst (λ n. Expands table bound n list o) count (subst (λ x. Expands table bound first x o) g h))

pub answers : (table : Table) (bound laid : ℕ) (list : List Token) (r : Result Expanded MacroFault)
    → IfOk r (λ x. ExpandsList table bound laid list (expanded (tokens x.list.nodes) x.laid))
    → IfErr r (λ fault. fault ≢ NoMemory → ExpandsList table bound laid list (refused fault))
    → (o : Outcome) → ExpandsList table bound laid list o → Answers o r
answers table bound laid list (Ok x) h k o e = list_same one_piece e h
answers table bound laid list (Err NoMemory) h k o e = inr refl
answers table bound laid list (Err (ArgumentCount at)) h k o e = inl (list_same one_piece e (k (λ n. absurd cc)))
answers table bound laid list (Err (UnclosedCall at)) h k o e = inl (list_same one_piece e (k (λ n. absurd cc)))
answers table bound laid list (Err (BadPaste at)) h k o e = inl (list_same one_piece e (k (λ n. absurd cc)))
answers table bound laid list (Err (TooManyTokens at n)) h k o e = inl (list_same one_piece e (k (λ m. absurd cc)))
