-- The files of what was seen, in parts.
use Rattle.std.proofs.Common.{◌≡◌, ℕ, ◌+◌, List, [], ◌∷◌, ◌++◌, None, All, length, refl, ap, ◌∙◌, subst, arith}
use Rattle.std.proofs.lemmas.List.Elements.{All-cons, All-head, All-nil, All-tail}
use Rattle.cx_base.specs.declared.answers.Answer.TheVariants.{Present}
use Rattle.cx_base.specs.declared.answers.SeenEntry.{SeenEntry}
use Rattle.cx_shelf.specs.declared.shelf.Shelved.{Shelved}
use Rattle.cx_asking.specs.Asking.{AreShelved, faulty, none, other, shelved}
use Rattle.cx_asking.specs.Shapes.Asks.{IsNew}
use Rattle.cx_asking.specs.Wishes.{look_up}

-- the files of entries behind those of others
pub shelved_both : (n : ℕ) (seen : List SeenEntry) (files : List Shelved) → AreShelved n seen files → (m : ℕ) (others : List SeenEntry) (more : List Shelved)
    → m ≡ n + length seen → AreShelved m others more → AreShelved n (seen ++ others) (files ++ more)
shelved_both _ [] [] (none n) m others more e h = subst (λ k. AreShelved k others more) (e ∙ omega arith) h
shelved_both _ [] (_ ∷ _) x m others more e h = elim x [ ]
shelved_both _ (_ ∷ _) (_ ∷ _) (shelved n path bytes f seen files p l rest) m others more e h =
    shelved n path bytes f (seen ++ others) (files ++ more) p l (shelved_both (n + 1) seen files rest m others more (e ∙ omega arith) h)
shelved_both _ (_ ∷ _) _ (faulty n path bytes outcome seen files fault l rest) m others more e h =
    faulty n path bytes outcome (seen ++ others) (files ++ more) fault l (shelved_both (n + 1) seen files rest m others more (e ∙ omega arith) h)
shelved_both _ (_ ∷ _) _ (other n x seen files p rest) m others more e h =
    other n x (seen ++ others) (files ++ more) p (shelved_both (n + 1) seen files rest m others more (e ∙ omega arith) h)

-- the file of the first entry, and those of the others
pub record Parts (n : ℕ) (e : SeenEntry) (seen : List SeenEntry) (files : List Shelved) : Type 0 where
  pub some : List Shelved
  pub others : List Shelved
  pub splits : files ≡ some ++ others
  pub first : AreShelved n (e ∷ []) some
  pub rest : AreShelved (n + 1) seen others

pub one_off : (n : ℕ) (e : SeenEntry) (seen : List SeenEntry) (files : List Shelved) → AreShelved n (e ∷ seen) files → Parts n e seen files
one_off _ _ _ (_ ∷ _) (shelved n path bytes f seen files p l rest) =
    record { some = f ∷ []; others = files; splits = refl; first = shelved n path bytes f [] [] p l (none (n + 1)); rest = rest }
one_off _ _ _ _ (faulty n path bytes outcome seen files fault l rest) =
    record { some = []; others = files; splits = refl; first = faulty n path bytes outcome [] [] fault l (none (n + 1)); rest = rest }
one_off _ _ _ _ (other n e seen files p rest) =
    record { some = []; others = files; splits = refl; first = other n e [] [] p (none (n + 1)); rest = rest }

-- a file of a path that was not asked
abbrev pub IsApart : List SeenEntry → Shelved → Type 0
IsApart seen f = look_up seen f.path ≡ None

-- the files of entries that are new
pub apart_of : (seen : List SeenEntry) (n : ℕ) (more : List SeenEntry) (new : List Shelved) → AreShelved n more new → All (IsNew seen) more → All (IsApart seen) new
apart_of seen _ [] [] (none n) fresh = All-nil (IsApart seen)
apart_of seen _ [] (_ ∷ _) x fresh = elim x [ ]
apart_of seen _ (_ ∷ _) (_ ∷ _) (shelved n path bytes f more new p l rest) fresh =
    All-cons (IsApart seen) f new (ap (look_up seen) p ∙ All-head (IsNew seen) (record { path = path; answer = Present bytes }) more fresh)
    (apart_of seen (n + 1) more new rest (All-tail (IsNew seen) (record { path = path; answer = Present bytes }) more fresh))
apart_of seen _ (_ ∷ _) _ (faulty n path bytes outcome more new fault l rest) fresh =
    apart_of seen (n + 1) more new rest (All-tail (IsNew seen) (record { path = path; answer = Present bytes }) more fresh)
apart_of seen _ (_ ∷ _) _ (other n e more new p rest) fresh =
    apart_of seen (n + 1) more new rest (All-tail (IsNew seen) e more fresh)
