-- docs/RULES.md, "The printed sheet": the text that a task file and a slot file give. Definitions only.
--
--     most_bytes, most_text  the longest file, and the longest sheet
--     Row task slots t       t is the line of a whole task record: the answer that judging writes, in decimal
--     Rows l slots n t       t is the lines of the first n task records of l, one behind the other
--     rest l                 the line of a part record at the end of l, or nothing
--     bad l slots            a file is too long, or the slot file isn't whole records
--     Sheet l slots t        t is the whole sheet
--     Filled l slots b n a   the sheet was put over the start of b: a is what b is then, n the sheet's length
--     RowPut, RowsPut        the same of one line at a place, and of the first i lines at the start
use Rattle.std.specs.Prelude.{◌≡◌, Bool, true, false, not, ◌||◌, cond, List, [], ◌++◌, ℕ, ◌+◌, ◌*◌, ◌/◌, ◌%◌, ◌≤◌, eqb, ltb, length, replicate}
use Rattle.records.specs.Records.{task_bytes, slot_bytes, reply_bytes, whole, part}
use Rattle.judge.specs.Judge.{Judged}
use Rattle.lines.specs.Lines.{longest_line, refused_long, line_of, refused_line, Put}

abbrev pub most_bytes : ℕ
most_bytes = 65536

-- The longest lines of as many records as a file may have, and the line for a part record.
abbrev pub most_text : ℕ
most_text = longest_line * (most_bytes / task_bytes) + refused_long

-- The reply buffer is cleared first: as long as an answer record, so refusal 2 is never given.
pub record Row (task slots t : List ℕ) : Type 0 where
  pub number : ℕ
  pub answer : List ℕ
  pub judged : Judged task slots (replicate reply_bytes 0) number answer
  pub text : t ≡ line_of answer

pub data Rows (l slots : List ℕ) : ℕ → List ℕ → Type 0 where
  none : Rows l slots 0 []
  more : {n : ℕ} {t row : List ℕ} → Rows l slots n t → Row (part l n) slots row → Rows l slots (n + 1) (t ++ row)

unfoldable pub rest : List ℕ → List ℕ
rest l = cond (eqb (length l % task_bytes) 0) [] refused_line

unfoldable pub bad : List ℕ → List ℕ → Bool
bad l slots = ltb most_bytes (length l) || ltb most_bytes (length slots) || not (eqb (length slots % slot_bytes) 0)

pub record Sheet (l slots t : List ℕ) : Type 0 where
  pub alone : bad l slots ≡ true → t ≡ refused_line
  pub lines : List ℕ
  pub rows : bad l slots ≡ false → Rows l slots (whole l) lines × (t ≡ lines ++ rest l)

pub record Filled (l slots before : List ℕ) (n : ℕ) (after : List ℕ) : Type 0 where
  pub text : List ℕ
  pub sheet : Sheet l slots text
  pub put : Put text before 0 n after

pub record RowPut (task slots before : List ℕ) (at n : ℕ) (after : List ℕ) : Type 0 where
  pub text : List ℕ
  pub row : Row task slots text
  pub put : Put text before at n after
  pub short : n ≤ at + longest_line

pub record RowsPut (l slots before : List ℕ) (i n : ℕ) (after : List ℕ) : Type 0 where
  pub text : List ℕ
  pub rows : Rows l slots i text
  pub put : Put text before 0 n after
  pub short : n ≤ longest_line * i
