-- docs/RULES.md, the demands: any two results that a public contract allows are equal, with every lent buffer at exit.
-- Definitions only: a statement for each public function; proofs/Settled.antt shows them.
use Rattle.std.specs.Prelude.{◌≡◌, Bool, List, ℕ}
use Rattle.records.specs.Refusals.{point_refusal}
use Rattle.lookup.specs.Lookup.{looked_up}
use Rattle.which.specs.Which.{Which}
use Rattle.judge.specs.Judge.{Judged}
use Rattle.octets.specs.Octets.{twos}
use Rattle.judge.specs.Points.{supplied_at, margin_at, counted_at}
use Rattle.quick.specs.Quick.{Quick}
use Rattle.rounds.specs.Rounds.{rounds_point_refusal, rounds_counted_at, RoundsJudged}
use Rattle.site.specs.Site.{Sited}
use Rattle.grants.specs.Grants.{GrantCall}
use Rattle.lines.specs.Lines.{Put}
use Rattle.sheets.specs.Sheets.{Filled}
use Rattle.fiddlequill.specs.Packed.{packed, PackedWhich, PackedQuick, PackedGrant}

-- judge::judge, fiddlequill_judge: the number and the reply.
abbrev pub JudgeSettled : Type 0
JudgeSettled =
    (task slots reply : List ℕ) (n n' : ℕ) (after after' : List ℕ)
    → Judged task slots reply n after → Judged task slots reply n' after' → (n ≡ n') × (after ≡ after')

-- rounds::rounds_judge, fiddlequill_rounds_judge: the number and the reply.
abbrev pub RoundsJudgeSettled : Type 0
RoundsJudgeSettled =
    (task slots reply : List ℕ) (n n' : ℕ) (after after' : List ℕ)
    → RoundsJudged task slots reply n after → RoundsJudged task slots reply n' after' → (n ≡ n') × (after ≡ after')

-- site::site, fiddlequill_site: the number and the reply.
abbrev pub SiteSettled : Type 0
SiteSettled =
    (tasks slots reply : List ℕ) (n n' : ℕ) (after after' : List ℕ)
    → Sited tasks slots reply n after → Sited tasks slots reply n' after' → (n ≡ n') × (after ≡ after')

-- which::which_slot: the number and the place.
abbrev pub WhichSettled : Type 0
WhichSettled =
    (task slots : List ℕ) (n n' p p' : ℕ) → Which task slots n p → Which task slots n' p' → (n ≡ n') × (p ≡ p')

-- fiddlequill_which_slot: the packed number.
abbrev pub PackedWhichSettled : Type 0
PackedWhichSettled = (task slots : List ℕ) (r r' : ℕ) → PackedWhich task slots r → PackedWhich task slots r' → r ≡ r'

-- judge::supply, judge::margin, judge::count: the number and the value beside it.
abbrev pub PointSettled : {A : Type 0} → (List ℕ → List ℕ → ℕ → A) → Type 0
PointSettled {A} value =
    (task slots : List ℕ) (x n n' : ℕ) (a a' : A)
    → (n ≡ point_refusal task slots x) × (a ≡ value task slots x)
    → (n' ≡ point_refusal task slots x) × (a' ≡ value task slots x) → (n ≡ n') × (a ≡ a')

abbrev pub PointsSettled : Type 0
PointsSettled = PointSettled supplied_at × PointSettled margin_at × PointSettled counted_at

-- fiddlequill_supply, fiddlequill_margin, fiddlequill_count: the packed number.
abbrev pub PackedPointSettled : (List ℕ → List ℕ → ℕ → ℕ) → Type 0
PackedPointSettled value =
    (task slots : List ℕ) (x r r' : ℕ)
    → r ≡ packed (point_refusal task slots x) (value task slots x)
    → r' ≡ packed (point_refusal task slots x) (value task slots x) → r ≡ r'

abbrev pub PackedPointsSettled : Type 0
PackedPointsSettled =
    PackedPointSettled supplied_at × PackedPointSettled (λ task slots x. twos (margin_at task slots x)) × PackedPointSettled counted_at

-- rounds::rounds_count: the number and the count.
abbrev pub RoundsCountSettled : Type 0
RoundsCountSettled =
    (task slots : List ℕ) (x n n' c c' : ℕ)
    → (n ≡ rounds_point_refusal task slots x) × (c ≡ rounds_counted_at task slots x)
    → (n' ≡ rounds_point_refusal task slots x) × (c' ≡ rounds_counted_at task slots x) → (n ≡ n') × (c ≡ c')

-- fiddlequill_rounds_count: the packed number.
abbrev pub PackedRoundsSettled : Type 0
PackedRoundsSettled =
    (task slots : List ℕ) (x r r' : ℕ)
    → r ≡ packed (rounds_point_refusal task slots x) (rounds_counted_at task slots x)
    → r' ≡ packed (rounds_point_refusal task slots x) (rounds_counted_at task slots x) → r ≡ r'

-- quick::quick: the number and the verdict.
abbrev pub QuickSettled : Type 0
QuickSettled =
    (task slots : List ℕ) (n n' : ℕ) (b b' : Bool) → Quick task slots n b → Quick task slots n' b' → (n ≡ n') × (b ≡ b')

-- fiddlequill_quick: the packed number.
abbrev pub PackedQuickSettled : Type 0
PackedQuickSettled = (task slots : List ℕ) (r r' : ℕ) → PackedQuick task slots r → PackedQuick task slots r' → r ≡ r'

-- grants::grant: the number, j and the marks.
abbrev pub GrantSettled : Type 0
GrantSettled =
    (l : List ℕ) (v loss e D h m k n n' j j' : ℕ) (after after' : List ℕ)
    → GrantCall l v loss e D h m k n j after → GrantCall l v loss e D h m k n' j' after' → (n ≡ n') × (j ≡ j') × (after ≡ after')

-- fiddlequill_grant: the packed number and the marks.
abbrev pub PackedSettled : Type 0
PackedSettled =
    (l : List ℕ) (v loss e D h m k r r' : ℕ) (after after' : List ℕ)
    → PackedGrant l v loss e D h m k r after → PackedGrant l v loss e D h m k r' after' → (r ≡ r') × (after ≡ after')

-- lookup::lookup: the part.
abbrev pub LookupSettled : Type 0
LookupSettled =
    (site factory : List ℕ) (id : ℕ) (part part' : List ℕ)
    → part ≡ looked_up site factory id → part' ≡ looked_up site factory id → part ≡ part'

-- lines::line, lines::refused: the place behind the text, and the buffer.
abbrev pub PutSettled : Type 0
PutSettled =
    (text out : List ℕ) (at n n' : ℕ) (after after' : List ℕ)
    → Put text out at n after → Put text out at n' after' → (n ≡ n') × (after ≡ after')

-- sheets::sheet: the sheet's length, and the text.
abbrev pub SheetSettled : Type 0
SheetSettled =
    (tasks slots out : List ℕ) (n n' : ℕ) (after after' : List ℕ)
    → Filled tasks slots out n after → Filled tasks slots out n' after' → (n ≡ n') × (after ≡ after')
