-- The calls by which the files are asked.
use Rattle.std.specs.Prelude.{◌≡◌, ℕ, ◌⊎◌, Bool, true, false, List, [], ◌∷◌, ◌++◌, length, Some, IfSome}
use Rattle.cx_base.specs.declared.answers.Answer.{Answer}
use Rattle.cx_base.specs.declared.answers.Answer.TheVariants.{Present, Absent, Folder, Unreadable, TooLarge}
use Rattle.cx_base.specs.declared.answers.SeenEntry.{SeenEntry}
use Rattle.cx_base.specs.declared.file_calls.FileCall.{FileCall}
use Rattle.cx_base.specs.declared.file_calls.FileRequest.TheVariants.{List as ListFolder, Read}
use Rattle.cx_base.specs.Faults.{RoseBy}
use Rattle.cx_base.specs.Outside.{FilesState, failed_paths}
use Rattle.cx_asking.specs.declared.purpose.Purpose.{Purpose}
use Rattle.cx_asking.specs.declared.purpose.Purpose.TheVariants as purpose

-- a path asked for the members of the folder there
abbrev pub list_call : List ℕ → Bool → FileCall
list_call path failed = record { path = path; request = ListFolder; failed = failed }

-- a path asked for the first bytes of the file there, at most so many
abbrev pub read_call : ℕ → List ℕ → Bool → FileCall
read_call most path failed = record { path = path; request = Read most; failed = failed }

-- the calls before a `read` for a purpose: a path that is given is first asked by `list`
abbrev pub before_read : Purpose → List ℕ → List FileCall
before_read purpose.Given path = list_call path false ∷ []
before_read _ path = []

-- the call that finds no folder, where one alone is wanted
abbrev pub AreCallsOfAbsent : ℕ → Purpose → List ℕ → List FileCall → Type 0
AreCallsOfAbsent most purpose.Folder path calls = calls ≡ list_call path false ∷ []
AreCallsOfAbsent most p path calls =
    calls ≡ before_read p path ++ read_call most path false ∷ []

-- the calls of which the last failed: a `list` where a folder may be there, or a `read`
abbrev pub AreCallsOfUnreadable : ℕ → Purpose → List ℕ → List FileCall → Type 0
AreCallsOfUnreadable most purpose.Given path calls =
    (calls ≡ list_call path true ∷ [])
    ⊎ (calls ≡ list_call path false ∷ read_call most path true ∷ [])
AreCallsOfUnreadable most purpose.File path calls = calls ≡ read_call most path true ∷ []
AreCallsOfUnreadable most purpose.Folder path calls = calls ≡ list_call path true ∷ []

-- the calls that give an answer
abbrev pub AreCalls : ℕ → Purpose → List ℕ → Answer → List FileCall → Type 0
AreCalls most p path (Present bytes) calls =
    calls ≡ before_read p path ++ read_call most path false ∷ []
AreCalls most p path Absent calls = AreCallsOfAbsent most p path calls
AreCalls most p path (Folder entries) calls = calls ≡ list_call path false ∷ []
AreCalls most p path Unreadable calls = AreCallsOfUnreadable most p path calls
AreCalls most p path TooLarge calls =
    calls ≡ before_read p path ++ read_call most path false ∷ []

-- the calls of all entries, those of one after those of another
unfoldable pub AreCallsOfAll : ℕ → List SeenEntry → List Purpose → List FileCall → Type 0
AreCallsOfAll most [] [] calls = calls ≡ []
AreCallsOfAll most [] (p ∷ ps) calls = ⊥
AreCallsOfAll most (e ∷ seen) [] calls = ⊥
AreCallsOfAll most (e ∷ seen) (p ∷ ps) calls =
    (own : List FileCall) × (others : List FileCall)
    × AreCalls most p e.path e.answer own × AreCallsOfAll most seen ps others
    × (calls ≡ own ++ others)

-- the files answered just these calls, where they tell that; their count of faults is as it was
-- where none of them failed, and rose by at least as many as failed
pub record Answered (before after : FilesState) (calls : List FileCall) : Type 0 where
  pub told :
      IfSome before.told (λ told. after.told ≡ Some (record told { calls = told.calls ++ calls }))
  pub unfailed : failed_paths calls ≡ [] → after.faults ≡ before.faults
  pub failed : RoseBy (length (failed_paths calls)) before.faults after.faults
