-- A digraph keeps its spelling.
use Rattle.std.proofs.Common.{◌≡◌, ℕ, List, [], ◌∷◌, Some, Bool, true, false, ◌&&◌, ◌||◌, refl, ap, ◌∙◌, cond}
use Rattle.std.specs.Prelude.{bytes_eq}
use Rattle.std.specs.List.{AllByRecursion, find, list_any}
use Rattle.std.specs.Option.{option_map_or}
use Rattle.std.proofs.lemmas.Slice.Eq.{bytes_eq-Decides}
use Rattle.cx_tokens.specs.declared.token.Token.{Token}
use Rattle.cx_tokens.specs.Brackets.{is_punct}
use Rattle.cx_tokens.specs.Digraphs.{digraph_of, digraphs, is_digraph, plain_text, spelling_of}

same_bytes : (a b : List ℕ) → bytes_eq a b ≡ true → a ≡ b
same_bytes a b h = (bytes_eq-Decides a b).0 h

-- the plain form leads back to the spelling
abbrev LeadsBack : (List ℕ × List ℕ) → Type 0
LeadsBack pair = digraph_of pair.1 ≡ pair.0

each_leads_back : AllByRecursion LeadsBack digraphs
unfolding digraph_of
each_leads_back = (refl, (refl, (refl, (refl, (refl, (refl, tt))))))

-- what is found in a table leads back to the text, and what is not is the text
found_back : (table : List (List ℕ × List ℕ)) (text : List ℕ) → AllByRecursion LeadsBack table
    → (t : List ℕ) → t ≡ option_map_or (λ p. p.1) (find (λ p. bytes_eq p.0 text) table) text
    → cond (list_any (λ p. bytes_eq p.0 text) table) (digraph_of t) t ≡ text
found_back [] text h t e = e
found_back (pair ∷ rest) text h t e =
    elim (bytes_eq pair.0 text)
    as (λ b. bytes_eq pair.0 text ≡ b → t ≡ option_map_or (λ p. p.1) (cond b (Some pair) (find (λ p. bytes_eq p.0 text) rest)) text
    → cond (b || list_any (λ p. bytes_eq p.0 text) rest) (digraph_of t) t ≡ text) [
      | true ↦ λ s k. ap digraph_of k ∙ h.0 ∙ same_bytes pair.0 text s
      | false ↦ λ s k. found_back rest text h.1 t k
    ] refl e

either_kind : (punct digraph : Bool) (plain spelled text : List ℕ) → text ≡ cond punct plain spelled → (text ≡ plain → cond digraph (digraph_of text) text ≡ spelled)
    → (d : Bool) → d ≡ (punct && digraph) → cond d (digraph_of text) text ≡ spelled
either_kind true digraph plain spelled text e h d w = ap (λ b. cond b (digraph_of text) text) w ∙ h e
either_kind false digraph plain spelled text e h d w = ap (λ b. cond b (digraph_of text) text) w ∙ e

pub spelling_kept : (t : Token) (spelled : List ℕ) → t.text ≡ plain_text t.kind spelled → t.digraph ≡ is_digraph t.kind spelled → spelling_of t ≡ spelled
unfolding plain_text is_digraph spelling_of
spelling_kept t spelled e d =
    either_kind (is_punct t.kind) (list_any (λ p. bytes_eq p.0 spelled) digraphs)
    (option_map_or (λ p. p.1) (find (λ p. bytes_eq p.0 spelled) digraphs) spelled) spelled t.text e
    (λ k. found_back digraphs spelled each_leads_back t.text k) t.digraph d
