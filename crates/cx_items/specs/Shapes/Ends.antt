-- Where items end, from the last part to the first.
use Rattle.std.specs.Prelude.{◌≡◌, ℕ, ◌-◌, drop, List, [], ◌∷◌, Bool, true, false, Option, Some, None, length, map}
use Rattle.cx_items.specs.declared.outline.Outermost.{Outermost}
use Rattle.cx_items.specs.declared.outline.PartKind.{PartKind}
use Rattle.cx_items.specs.declared.outline.PartKind.TheVariants as part
use Rattle.cx_items.specs.declared.ends.Ahead.{Ahead}
use Rattle.cx_items.specs.declared.ends.Head.{Head}
use Rattle.cx_items.specs.declared.cuts.Entry.{Entry}

abbrev pub nothing : Ahead
nothing = record { next = None; head = None; from_semicolon = None; from_other = None }

abbrev pub with_word : Option Head → Option Head
with_word None = None
with_word (Some h) = Some (record h { word = true })

-- the first end from round brackets on
abbrev pub head_round : ℕ → Ahead → Option PartKind → Option Head
head_round behind a (Some part.Braces) =
    Some (record { behind = behind - 1; old_style = None; word = false })
head_round behind a (Some part.Word) = with_word a.head
head_round behind a _ = a.head

abbrev pub head_before : PartKind → ℕ → Ahead → Option Head
head_before part.Semicolon behind a =
    Some (record { behind = behind; old_style = a.from_semicolon; word = false })
head_before part.Round behind a = head_round behind a a.next
head_before _ behind a = a.head

abbrev pub body_from : PartKind → Option ℕ → Ahead → Option ℕ
body_from part.Braces behind a = behind
body_from part.Equal behind a = None
body_from part.Semicolon behind a = a.from_semicolon
body_from _ behind a = a.from_other

abbrev pub before : PartKind → ℕ → Ahead → Ahead
before kind behind a = record {
  next = Some kind;
  head = head_before kind behind a;
  from_semicolon = body_from kind (Some behind) a;
  from_other = body_from kind None a;
}

-- what stands from the first part on
unfoldable pub ahead : List PartKind → Ahead
ahead [] = nothing
ahead (k ∷ ks) = before k (length ks) (ahead ks)

abbrev pub chosen_end : Head → Bool → Option ℕ → ℕ
chosen_end h true (Some behind) = behind
chosen_end h _ _ = h.behind

abbrev pub item_of : Option Head → Option ℕ
item_of None = None
item_of (Some h) = Some (chosen_end h h.word h.old_style)

-- how many parts stand behind the item that begins here
abbrev pub item_behind : Ahead → Option ℕ
item_behind a = item_of a.head

abbrev pub kinds : List Outermost → List PartKind
kinds parts = map (λ p. p.kind) parts

-- for each part its first token, and how many parts stand behind the item that begins with it
unfoldable pub entries_of : List Outermost → List Entry
entries_of [] = []
entries_of (p ∷ ps) =
    record { first = p.first; behind = item_behind (ahead (kinds (p ∷ ps))) } ∷ entries_of ps

-- the last so many
abbrev pub last : ℕ → List Entry → List Entry
last n es = drop (length es - n) es

-- from item to item
pub data Walks : List Entry → List ℕ → Bool → Type 0 where
  at_end : Walks [] [] true
  unfinished : {e : Entry} {es : List Entry} → e.behind ≡ None
      → Walks (e ∷ es) (e.first ∷ []) false
  on : {e : Entry} {es : List Entry} {starts : List ℕ} {finished : Bool} (n : ℕ)
      → e.behind ≡ Some n → Walks (last n es) starts finished
      → Walks (e ∷ es) (e.first ∷ starts) finished
