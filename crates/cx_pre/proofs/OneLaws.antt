-- At most one outcome: each part of what is chosen gives one result.
use Rattle.std.proofs.Common.{◌≡◌, ℕ, Bool, true, List, [], ◌∷◌, Option, Some, None, refl, sym, ◌∙◌, ap, subst}
use Rattle.cx_tokens.specs.declared.token.Token.{Token}
use Rattle.cx_lex.specs.declared.piece.Piece.{Piece}
use Rattle.cx_condition.specs.Conditions.{Reads, Tree, value}
use Rattle.cx_condition.specs.declared.value.Value.{Value}
use Rattle.cx_macro.specs.Macros.{Table}
use Rattle.cx_macro.proofs.OutcomeLaws.{list_same}
use Rattle.cx_macro.proofs.PieceLaws.{one_piece}
use Rattle.cx_lines.specs.Kinds.{after_text, begins_text, kind_of}
use Rattle.cx_lines.specs.declared.nesting.NestingFault.{NestingFault}
use Rattle.cx_directive.specs.declared.include.Target.{Target}
use Rattle.cx_directive.specs.Answers.{is_defined}
use Rattle.cx_pre.specs.declared.fault.PreFault.TheVariants.{Deep, Macro}
use Rattle.cx_pre.specs.declared.config.Config.{Config}
use Rattle.cx_shelf.specs.declared.shelf.Shelf.{Shelf}
use Rattle.cx_pre.specs.Choosing.{Comes, Does, Enters, IsChosen, alone, back_in, directive, directive_stops, ends, enters, group_ends, include_depth, includes_nothing, is_chosen, nowhere, once_more, section, section_stops, stops, text, text_stops, too_deep}
use Rattle.cx_pre.specs.Conditions.{Choice, Chooses, Decides, Decision, HasValue, another, chosen, decided, has, has_none, is_nonzero, name_is, no_condition, no_decision, no_name, no_value, none_left, not_replaced, said_of, this_one, value_is}
use Rattle.cx_shelf.specs.Searches.{found}
use Rattle.cx_shelf.specs.Shelves.{path_of}
use Rattle.cx_pre.specs.Stages.{is_once, with_missing, Answer, Outcome, Stage, answer_of, first_stage, through, with_laid, with_text}
use Rattle.cx_pre.specs.Starts.{IsStart}
use Rattle.cx_pre.proofs.KindLaws.{Sort, alone_sort, include_sort, is_a_directive, is_a_part, is_a_text, is_an_opening, name_or_none, not_alone, opening_sort, part_sort, sort_of, text_sort, value_or_name, value_or_none}

-- at most one tree reads a list of tokens
abbrev pub OneReading : Type 0
OneReading = (tokens : List Token) (t u : Tree) → Reads tokens t → Reads tokens u → t ≡ u

module _ (one : OneReading) where
  -- a condition has at most one value
  pub value_same : {ts : List Token} {a b : Option Value} → HasValue ts a → HasValue ts b → a ≡ b
  value_same {ts} (has t r e) (has u q f) = let same : value t ≡ value u = ap value (one ts t u r q) in cc
  value_same (has t r e) (has_none n) = let f = n t r in absurd cc
  value_same (has_none n) (has t r e) = let f = n t r in absurd cc
  value_same (has_none n) (has_none m) = refl

  said_same : (s : Stage) (line : List Piece) (name other : List ℕ) (is_chosen is_other : Bool) → said_of (kind_of line) (is_defined s.macros name) ≡ Some is_chosen
      → said_of (kind_of line) (is_defined s.macros other) ≡ Some is_other → name ≡ other → is_chosen ≡ is_other
  said_same s line name other c d e f same =
      let g : said_of (kind_of line) (is_defined s.macros name) ≡ said_of (kind_of line) (is_defined s.macros other) = ap (λ n. said_of (kind_of line) (is_defined s.macros n)) same in
      cc

  -- a line decides at most one thing
  pub decides_same : {s : Stage} {line : List Piece} {d e : Decision} → Decides s line d → Decides s line e → d ≡ e
  decides_same (value_is {ts = ts} {laid = laid} {v = v} a e h) (value_is {ts = ts'} {laid = laid'} {v = v'} a' e' h') =
      let same = list_same one_piece e e' in
      let lists : ts' ≡ ts = cc in
      let counts : laid ≡ laid' = cc in
      let values = value_same h (subst (λ x. HasValue x (Some v')) lists h') in
      let vs : v ≡ v' = cc in
      ap (λ n. decided (is_nonzero v) n) counts ∙ ap (λ x. decided (is_nonzero x) laid') vs
  decides_same (value_is {ts = ts} a e h) (no_value {ts = ts'} a' e' h') =
      let same = list_same one_piece e e' in
      let lists : ts' ≡ ts = cc in
      let values = value_same h (subst (λ x. HasValue x None) lists h') in
      absurd cc
  decides_same (value_is a e h) (not_replaced a' e') = let same = list_same one_piece e e' in absurd cc
  decides_same {line = line} (value_is a e h) (name_is {is_chosen = c} f n) = absurd (value_or_name (kind_of line) _ c a f)
  decides_same {line = line} (value_is a e h) (no_name {is_chosen = c} f n) = absurd (value_or_name (kind_of line) _ c a f)
  decides_same {line = line} (value_is a e h) (no_condition u) = absurd (value_or_none (kind_of line) a u)
  decides_same (no_value {ts = ts} a e h) (value_is {ts = ts'} {v = v} a' e' h') =
      let same = list_same one_piece e e' in
      let lists : ts' ≡ ts = cc in
      let values = value_same h (subst (λ x. HasValue x (Some v)) lists h') in
      absurd cc
  decides_same (no_value a e h) (no_value a' e' h') = refl
  decides_same (no_value a e h) (not_replaced a' e') = let same = list_same one_piece e e' in absurd cc
  decides_same {line = line} (no_value a e h) (name_is {is_chosen = c} f n) = absurd (value_or_name (kind_of line) _ c a f)
  decides_same {line = line} (no_value a e h) (no_name {is_chosen = c} f n) = absurd (value_or_name (kind_of line) _ c a f)
  decides_same {line = line} (no_value a e h) (no_condition u) = absurd (value_or_none (kind_of line) a u)
  decides_same (not_replaced a e) (value_is a' e' h') = let same = list_same one_piece e e' in absurd cc
  decides_same (not_replaced a e) (no_value a' e' h') = let same = list_same one_piece e e' in absurd cc
  decides_same (not_replaced a e) (not_replaced a' e') = let same = list_same one_piece e e' in cc
  decides_same {line = line} (not_replaced a e) (name_is {is_chosen = c} f n) = absurd (value_or_name (kind_of line) _ c a f)
  decides_same {line = line} (not_replaced a e) (no_name {is_chosen = c} f n) = absurd (value_or_name (kind_of line) _ c a f)
  decides_same {line = line} (not_replaced a e) (no_condition u) = absurd (value_or_none (kind_of line) a u)
  decides_same {line = line} (name_is {is_chosen = c} f n) (value_is a e h) = absurd (value_or_name (kind_of line) _ c a f)
  decides_same {line = line} (name_is {is_chosen = c} f n) (no_value a e h) = absurd (value_or_name (kind_of line) _ c a f)
  decides_same {line = line} (name_is {is_chosen = c} f n) (not_replaced a e) = absurd (value_or_name (kind_of line) _ c a f)
  decides_same {s} {line} (name_is {name = name} {is_chosen = c} f n) (name_is {name = name'} {is_chosen = c'} f' n') =
      let names : name ≡ name' = cc in ap (λ x. decided x s.laid) (said_same s line name name' c c' f f' names)
  decides_same (name_is f n) (no_name f' n') = absurd cc
  decides_same {line = line} (name_is {is_chosen = c} f n) (no_condition u) = absurd (name_or_none (kind_of line) _ c f u)
  decides_same {line = line} (no_name {is_chosen = c} f n) (value_is a e h) = absurd (value_or_name (kind_of line) _ c a f)
  decides_same {line = line} (no_name {is_chosen = c} f n) (no_value a e h) = absurd (value_or_name (kind_of line) _ c a f)
  decides_same {line = line} (no_name {is_chosen = c} f n) (not_replaced a e) = absurd (value_or_name (kind_of line) _ c a f)
  decides_same (no_name f n) (name_is f' n') = absurd cc
  decides_same (no_name f n) (no_name f' n') = refl
  decides_same {line = line} (no_name {is_chosen = c} f n) (no_condition u) = absurd (name_or_none (kind_of line) _ c f u)
  decides_same {line = line} (no_condition u) (value_is a e h) = absurd (value_or_none (kind_of line) a u)
  decides_same {line = line} (no_condition u) (no_value a e h) = absurd (value_or_none (kind_of line) a u)
  decides_same {line = line} (no_condition u) (not_replaced a e) = absurd (value_or_none (kind_of line) a u)
  decides_same {line = line} (no_condition u) (name_is {is_chosen = c} f n) = absurd (name_or_none (kind_of line) _ c f u)
  decides_same {line = line} (no_condition u) (no_name {is_chosen = c} f n) = absurd (name_or_none (kind_of line) _ c f u)
  decides_same (no_condition u) (no_condition w) = refl

  -- a section has at most one choice
  pub chooses_same : {s : Stage} {line : List Piece} {rest : List (List Piece)} {c d : Choice} → Chooses s line rest c → Chooses s line rest d → c ≡ d
  chooses_same {s} {rest = rest} (this_one {laid = laid} h) (this_one {laid = laid'} h') =
      let same = decides_same h h' in let counts : laid ≡ laid' = cc in ap (λ n. chosen (with_laid n s) rest) counts
  chooses_same (this_one h) (another part more h' f c) = let same = decides_same h h' in absurd cc
  chooses_same (this_one h) (none_left h' f) = let same = decides_same h h' in absurd cc
  chooses_same (this_one h) (no_decision h') = let same = decides_same h h' in absurd cc
  chooses_same (another part more h f c) (this_one h') = let same = decides_same h h' in absurd cc
  chooses_same {s} {d = d} (another {laid = laid} part more h f c) (another {laid = laid'} part' more' h' f' c') =
      let same = decides_same h h' in
      let counts : laid' ≡ laid = cc in
      let parts : part' ≡ part = cc in
      let mores : more' ≡ more = cc in
      chooses_same c
      (subst (λ n. Chooses (with_laid n s) part more d) counts
      (subst (λ x. Chooses (with_laid laid' s) x more d) parts
      (subst (λ x. Chooses (with_laid laid' s) part' x d) mores c')))
  chooses_same (another part more h f c) (none_left h' f') = absurd cc
  chooses_same (another part more h f c) (no_decision h') = let same = decides_same h h' in absurd cc
  chooses_same (none_left h f) (this_one h') = let same = decides_same h h' in absurd cc
  chooses_same (none_left h f) (another part more h' f' c) = absurd cc
  chooses_same {s} (none_left {laid = laid} h f) (none_left {laid = laid'} h' f') =
      let same = decides_same h h' in let counts : laid ≡ laid' = cc in ap (λ n. chosen (with_laid n s) []) counts
  chooses_same (none_left h f) (no_decision h') = let same = decides_same h h' in absurd cc
  chooses_same (no_decision h) (this_one h') = let same = decides_same h h' in absurd cc
  chooses_same (no_decision h) (another part more h' f c) = let same = decides_same h h' in absurd cc
  chooses_same (no_decision h) (none_left h' f) = let same = decides_same h h' in absurd cc
  chooses_same (no_decision h) (no_decision h') = let same = decides_same h h' in cc

-- the sort of the line that a rule is for
unfoldable pub line_sort : List (List Piece) → Option Sort
line_sort [] = None
line_sort (line ∷ lines) = Some (sort_of (kind_of line))

text_lines : (lines : List (List Piece)) → begins_text lines ≡ true → line_sort lines ≡ Some is_a_text
unfolding line_sort
text_lines [] e = absurd cc
text_lines (line ∷ lines) e = ap Some (text_sort (kind_of line) e)

does_sort : {shelf : Shelf} {depth file : ℕ} {s : Stage} {line : List Piece} {o : Outcome} → Does shelf depth file s line o → sort_of (kind_of line) ≡ is_a_directive
does_sort {file = file} {s} {line} {o} (alone e) = alone_sort (kind_of line) file s line o e
does_sort {line = line} (includes_nothing e t) = include_sort (kind_of line) e
does_sort {line = line} (too_deep target e t) = include_sort (kind_of line) e
does_sort {line = line} (nowhere target e t f) = include_sort (kind_of line) e
does_sort {line = line} (once_more target other e t f m) = include_sort (kind_of line) e
does_sort {line = line} (enters target other inner e t f m c b) = include_sort (kind_of line) e

unfoldable pub rule_sort : {shelf : Shelf} {depth file : ℕ} {fault : Option NestingFault} {s : Stage} {lines : List (List Piece)} {o : Outcome} → Comes shelf depth file fault s lines o → Option Sort
rule_sort ends = None
rule_sort (text ts laid b e c) = Some is_a_text
rule_sort (text_stops refusal b e) = Some is_a_text
rule_sort (directive next d c) = Some is_a_directive
rule_sort (directive_stops missing refusal d) = Some is_a_directive
rule_sort (section next lines k h c) = Some is_an_opening
rule_sort (section_stops refusal k h) = Some is_an_opening
rule_sort (group_ends k c) = Some is_a_part

-- a rule is for lines of one sort
pub rule_fits : {shelf : Shelf} {depth file : ℕ} {fault : Option NestingFault} {s : Stage} {lines : List (List Piece)} {o : Outcome} (c : Comes shelf depth file fault s lines o)
    → rule_sort c ≡ line_sort lines
unfolding line_sort rule_sort
rule_fits ends = refl
rule_fits {lines = lines} (text ts laid b e c) = sym (text_lines lines b)
rule_fits {lines = lines} (text_stops refusal b e) = sym (text_lines lines b)
rule_fits (directive next d c) = sym (ap Some (does_sort d))
rule_fits (directive_stops missing refusal d) = sym (ap Some (does_sort d))
rule_fits (section {line = line} next lines k h c) = sym (ap Some (opening_sort (kind_of line) k))
rule_fits (section_stops {line = line} refusal k h) = sym (ap Some (opening_sort (kind_of line) k))
rule_fits (group_ends {line = line} k c) = sym (ap Some (part_sort (kind_of line) k))

rules_agree : {shelf : Shelf} {depth file : ℕ} {fault : Option NestingFault} {s : Stage} {lines : List (List Piece)} {o p : Outcome}
    (c : Comes shelf depth file fault s lines o) (d : Comes shelf depth file fault s lines p) → rule_sort c ≡ rule_sort d
rules_agree c d = rule_fits c ∙ sym (rule_fits d)

found_same : (shelf : Shelf) (file : ℕ) (target target' : Target) (other other' : ℕ) → target ≡ target' → found shelf (path_of shelf file) target ≡ Some other
    → found shelf (path_of shelf file) target' ≡ Some other' → other ≡ other'
found_same shelf file target target' other other' e f f' = let same = ap (found shelf (path_of shelf file)) e in cc

module _ (one : OneReading) where
  mutual
    unfolding rule_sort

    -- at most one thing comes of lines
    pub comes_same : {shelf : Shelf} {depth file : ℕ} {fault : Option NestingFault} {s : Stage} {lines : List (List Piece)} {o p : Outcome}
        → Comes shelf depth file fault s lines o → Comes shelf depth file fault s lines p → o ≡ p
    comes_same ends ends = refl
    comes_same {shelf} {depth} {file} {fault} {s} {lines} {p = p} (text ts laid b e c) (text ts' laid' b' e' c') =
        let same = list_same one_piece e e' in
        let lists : ts' ≡ ts = cc in
        let counts : laid' ≡ laid = cc in
        comes_same c
        (subst (λ x. Comes shelf depth file fault (with_text x laid s) (after_text lines) p) lists
        (subst (λ n. Comes shelf depth file fault (with_text ts' n s) (after_text lines) p) counts c'))
    comes_same (text ts laid b e c) (text_stops refusal b' e') = let same = list_same one_piece e e' in absurd cc
    comes_same (text_stops refusal b e) (text ts laid b' e' c) = let same = list_same one_piece e e' in absurd cc
    comes_same {s = s} (text_stops refusal b e) (text_stops refusal' b' e') =
        let same = list_same one_piece e e' in let refusals : refusal ≡ refusal' = cc in ap (λ x. stops s (Macro x)) refusals
    comes_same {shelf} {depth} {file} {fault} {p = p} (directive {rest = rest} next d c) (directive next' d' c') =
        let same = does_same d d' in
        let nexts : next' ≡ next = cc in
        comes_same c (subst (λ x. Comes shelf depth file fault x rest p) nexts c')
    comes_same (directive next d c) (directive_stops missing refusal d') = let same = does_same d d' in absurd cc
    comes_same (directive_stops missing refusal d) (directive next d' c) = let same = does_same d d' in absurd cc
    comes_same (directive_stops missing refusal d) (directive_stops missing' refusal' d') = does_same d d'
    comes_same {shelf} {depth} {file} {fault} {p = p} (section next lines k h c) (section next' lines' k' h' c') =
        let same = chooses_same one h h' in
        let nexts : next' ≡ next = cc in
        let groups : lines' ≡ lines = cc in
        comes_same c
        (subst (λ x. Comes shelf depth file fault x lines p) nexts
        (subst (λ x. Comes shelf depth file fault next' x p) groups c'))
    comes_same (section next lines k h c) (section_stops refusal k' h') = let same = chooses_same one h h' in absurd cc
    comes_same (section_stops refusal k h) (section next lines k' h' c) = let same = chooses_same one h h' in absurd cc
    comes_same {s = s} (section_stops refusal k h) (section_stops refusal' k' h') =
        let same = chooses_same one h h' in let refusals : refusal ≡ refusal' = cc in ap (stops s) refusals
    comes_same (group_ends k c) (group_ends k' c') = comes_same c c'
    comes_same c d = let e = rules_agree c d in absurd cc

    -- at most one thing comes of a directive
    pub does_same : {shelf : Shelf} {depth file : ℕ} {s : Stage} {line : List Piece} {o p : Outcome} → Does shelf depth file s line o → Does shelf depth file s line p → o ≡ p
    does_same (alone e) (alone e') = cc
    does_same {file = file} {s} {line} {o} (alone e) (includes_nothing k t) = absurd (not_alone (kind_of line) file s line o k e)
    does_same {file = file} {s} {line} {o} (alone e) (too_deep target k t) = absurd (not_alone (kind_of line) file s line o k e)
    does_same {file = file} {s} {line} {o} (alone e) (nowhere target k t f) = absurd (not_alone (kind_of line) file s line o k e)
    does_same {file = file} {s} {line} {o} (alone e) (once_more target other k t f m) = absurd (not_alone (kind_of line) file s line o k e)
    does_same {file = file} {s} {line} {o} (alone e) (enters target other inner k t f m c b) = absurd (not_alone (kind_of line) file s line o k e)
    does_same {file = file} {s} {line} {p = p} (includes_nothing k t) (alone e) = absurd (not_alone (kind_of line) file s line p k e)
    does_same (includes_nothing k t) (includes_nothing k' t') = refl
    does_same (includes_nothing k t) (too_deep target k' t') = absurd cc
    does_same (includes_nothing k t) (nowhere target k' t' f) = absurd cc
    does_same (includes_nothing k t) (once_more target other k' t' f m) = absurd cc
    does_same (includes_nothing k t) (enters target other inner k' t' f m c b) = absurd cc
    does_same {file = file} {s} {line} {p = p} (too_deep target k t) (alone e) = absurd (not_alone (kind_of line) file s line p k e)
    does_same (too_deep target k t) (includes_nothing k' t') = absurd cc
    does_same {s = s} (too_deep target k t) (too_deep target' k' t') =
        let targets : target ≡ target' = cc in ap (λ (x : Target). stops s (Deep x.name.at)) targets
    does_same {file = file} {s} {line} {p = p} (nowhere target k t f) (alone e) = absurd (not_alone (kind_of line) file s line p k e)
    does_same (nowhere target k t f) (includes_nothing k' t') = absurd cc
    does_same {s = s} (nowhere target k t f) (nowhere target' k' t' f') =
        let targets : target ≡ target' = cc in ap (λ (x : Target). through (with_missing x.name s)) targets
    does_same {shelf} {file = file} (nowhere target k t f) (once_more target' other k' t' f' m) =
        let targets : target ≡ target' = cc in let same = ap (found shelf (path_of shelf file)) targets in absurd cc
    does_same {shelf} {file = file} (nowhere target k t f) (enters target' other inner k' t' f' m c b) =
        let targets : target ≡ target' = cc in let same = ap (found shelf (path_of shelf file)) targets in absurd cc
    does_same {file = file} {s} {line} {p = p} (once_more target other k t f m) (alone e) = absurd (not_alone (kind_of line) file s line p k e)
    does_same (once_more target other k t f m) (includes_nothing k' t') = absurd cc
    does_same {shelf} {file = file} (once_more target other k t f m) (nowhere target' k' t' f') =
        let targets : target ≡ target' = cc in let same = ap (found shelf (path_of shelf file)) targets in absurd cc
    does_same (once_more target other k t f m) (once_more target' other' k' t' f' m') = refl
    does_same {shelf} {file = file} {s} (once_more target other k t f m) (enters target' other' inner k' t' f' m' c b) =
        let others : other ≡ other' = found_same shelf file target target' other other' (cc) f f' in
        let same = ap (λ n. is_once n s) others in
        absurd cc
    does_same {file = file} {s} {line} {p = p} (enters target other inner k t f m c b) (alone e) = absurd (not_alone (kind_of line) file s line p k e)
    does_same (enters target other inner k t f m c b) (includes_nothing k' t') = absurd cc
    does_same {shelf} {file = file} (enters target other inner k t f m c b) (nowhere target' k' t' f') =
        let targets : target ≡ target' = cc in let same = ap (found shelf (path_of shelf file)) targets in absurd cc
    does_same {shelf} {file = file} {s} (enters target other inner k t f m c b) (once_more target' other' k' t' f' m') =
        let others : other ≡ other' = found_same shelf file target target' other other' (cc) f f' in
        let same = ap (λ n. is_once n s) others in
        absurd cc
    does_same {shelf} {file = file} {s} (enters {depth = depth} target other inner k t f m c b) (enters target' other' inner' k' t' f' m' c' b') =
        let others : other' ≡ other = sym (found_same shelf file target target' other other' (cc) f f') in
        let same = comes_same c (subst (λ n. Enters shelf depth n s inner') others c') in
        b ∙ ap (back_in shelf file) same ∙ sym b'

  -- a unit and a configuration have at most one answer
  pub one_answer : ((config : Config) (a b : Table) → IsStart config a → IsStart config b → a ≡ b)
      → (shelf : Shelf) (unit : ℕ) (config : Config) (a b : Answer) → IsChosen shelf unit config a → IsChosen shelf unit config b → a ≡ b
  one_answer one_start shelf unit config a b (is_chosen macros o i c) (is_chosen macros' o' i' c') =
      let same : macros' ≡ macros = one_start config macros' macros i' i in
      ap answer_of (comes_same c (subst (λ m. Enters shelf include_depth unit (first_stage shelf m) o') same c'))
