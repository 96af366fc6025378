-- The sheet, put into its buffer line by line. Assumes nothing.
use mathlib.Core.Path.{◌≡◌, refl, sym, ap, ◌∙◌}
use mathlib.Core.Bool.{Bool, true, false}
use mathlib.Core.List.{List, [], ◌++◌, append-nil}
use Prim.Native.Nat.{ℕ, ◌+◌, ◌*◌, ◌%◌, ◌≤◌, ◌<◌}
use native.Mathlib.Omega.{arith}
use lib.Dec.{ltb}
use lib.ListN.{length, take, drop, replicate, length-append, length-drop}
use lib.Seq.{length-take-le, take_at, drop_at, drop-drop}
use borrow.Author.Tests.{ltb-true, ltb-false, lt-ltb, le-leb, eq-eqb, ne_eqb}
use Rattle.io.specs.Counts.{IsPrefixLen}
use Rattle.records.specs.Records.{task_bytes, reply_bytes, whole, part}
use Rattle.judge.specs.Judge.{Judged}
use Rattle.lines.specs.Lines.{longest_line, refused_long, line_of, refused_line, fitting, line_for, Put}
use Rattle.lines.proofs.Texts.{put-none, put_then}
use Rattle.sheets.specs.Sheets.{most_bytes, none, more, rest, bad, Filled, RowPut, RowsPut}

bad-tasks : (l s : List ℕ) → most_bytes < length l → true ≡ bad l s
unfolding bad
bad-tasks l s t = rw (lt-ltb most_bytes (length l) t)

pub bad-short : (l s : List ℕ) → bad l s ≡ false → length l ≤ most_bytes
bad-short l s f = go (ltb most_bytes (length l)) refl
  where
    go : (t : Bool) → ltb most_bytes (length l) ≡ t → length l ≤ most_bytes
    go true e =
        absurd (let z : true ≡ false = bad-tasks l s (ltb-true most_bytes (length l) e) ∙ f in let n : ◌≡◌ {A = ℕ} 0 1 = cc in omega arith)
    go false e = ltb-false most_bytes (length l) e

-- What fits is put as it is.
line-is : (a b : List ℕ) (at : ℕ) → length a ≡ reply_bytes → at + longest_line ≤ length b → line_for a b at ≡ line_of a
unfolding line_for fitting
line-is a b at s l = rw (eq-eqb (length a) reply_bytes s, le-leb (at + longest_line) (length b) l)

refused-is : (b : List ℕ) (at : ℕ) → at + refused_long ≤ length b → fitting refused_long refused_line b at ≡ refused_line
unfolding fitting
refused-is b at l = rw (le-leb (at + refused_long) (length b) l)

pub refused_end :
    (b : List ℕ) (at : ℕ) {d : List ℕ} {r : ℕ} → at + refused_long ≤ length b → Put (fitting refused_long refused_line b at) b at r d → r ≡ at + refused_long
unfolding refused_line
refused_end b at l p = p.behind ∙ ap (λ t. at + length t) (refused-is b at l)

pub row_put :
    (task slots b d a : List ℕ) (at n r : ℕ) → Judged task slots (replicate reply_bytes 0) n a → length a ≡ reply_bytes
    → at + longest_line ≤ length b → Put (line_for a b at) b at r d × (r ≤ at + longest_line) → RowPut task slots b at r d
row_put task slots b d a at n r j s l p =
    record {
      text = line_of a;
      row = record { number = n; answer = a; judged = j; text = refl };
      put = rw (line-is a b at s l) at p.0;
      short = p.1;
    }

-- The lines of the first i records stand at the start of the buffer, and the other records' bytes are left.
pub record Going (l slots b d left : List ℕ) (at i : ℕ) : Type 0 where
  pub upto : i ≤ whole l
  pub others : left ≡ drop (task_bytes * i) l
  pub put : RowsPut l slots b i at d
  pub same : length d ≡ length b

pub going-none : (l slots b : List ℕ) → Going l slots b b l 0 0
going-none l slots b =
    record {
      upto = omega arith;
      others = refl;
      put = record { text = []; rows = none; put = put-none b 0; short = omega arith };
      same = refl;
    }

-- A whole record is left, and it is the next one.
module _
    {l slots b d left : List ℕ} {at i : ℕ} (task others : List ℕ) (g : Going l slots b d left at i) (e : left ≡ task ++ others)
    (w : length task ≡ task_bytes) where
  pub going-room : i < whole l
  going-room = omega (arith, ap length (sym g.others ∙ e), length-append task others, length-drop (task_bytes * i) l)

  next : task ≡ part l i
  unfolding part
  next = sym (take_at task others task_bytes w) ∙ ap (take task_bytes) (sym e ∙ g.others)

  rest-left : others ≡ drop (task_bytes * (i + 1)) l
  rest-left =
      sym (drop_at task others task_bytes w)
      ∙ ap (drop task_bytes) (sym e ∙ g.others)
      ∙ drop-drop task_bytes (task_bytes * i) l
      ∙ ap (λ n. drop n l) (let k : task_bytes * i + task_bytes ≡ task_bytes * (i + 1) = omega arith in k)

  pub going_more : {o : List ℕ} {m : ℕ} → RowPut task slots d at m o → length o ≡ length d → Going l slots b o others m (i + 1)
  going_more {o} {m} r s =
      let one : RowPut (part l i) slots d at m o = rw next at r in
      record {
        upto = omega (arith, going-room);
        others = rest-left;
        put =
            record {
              text = g.put.text ++ one.text;
              rows = more g.put.rows one.row;
              put = put_then (omega (arith, g.put.put.behind)) g.put.put one.put;
              short = omega (arith, g.put.short, one.short);
            };
        same = s ∙ g.same;
      }

-- Less than a record is left.
pub going-all :
    {l slots b d left : List ℕ} {at i : ℕ} → Going l slots b d left at i → length left < task_bytes → RowsPut l slots b (whole l) at d
going-all {l} {slots} {b} {d} {left} {at} {i} g f =
    let e : i ≡ whole l = omega (arith, g.upto, ap length g.others, length-drop (task_bytes * i) l) in
    rw e at g.put

-- One line alone, whole records, and whole records with a part behind them.
module _ (l slots b : List ℕ) where
  pub filled-alone :
      {d : List ℕ} {r : ℕ} → bad l slots ≡ true → refused_long ≤ length b → Put (fitting refused_long refused_line b 0) b 0 r d → Filled l slots b r d
  filled-alone {d} {r} t k p =
      record {
        text = refused_line;
        sheet =
            record {
              alone = λ _. refl;
              lines = [];
              rows = λ f. absurd (let z : true ≡ false = sym t ∙ f in let n : ◌≡◌ {A = ℕ} 0 1 = cc in omega arith);
            };
        put = rw (refused-is b 0 (omega arith)) at p;
      }

  module _ {d : List ℕ} {at : ℕ} (f : bad l slots ≡ false) (p : RowsPut l slots b (whole l) at d) where
    never : {t : List ℕ} → bad l slots ≡ true → t ≡ refused_line
    never t = absurd (let z : true ≡ false = sym t ∙ f in let n : ◌≡◌ {A = ℕ} 0 1 = cc in omega arith)

    pub filled-whole : length l % task_bytes ≡ 0 → Filled l slots b at d
    unfolding rest
    filled-whole e =
        record {
          text = p.text;
          sheet =
              record {
                alone = never;
                lines = p.text;
                rows = λ _. (p.rows, rw (eq-eqb (length l % task_bytes) 0 e) (sym (append-nil p.text)));
              };
          put = p.put;
        }

    pub filled-part :
        {e : List ℕ} {r : ℕ} → (length l % task_bytes ≡ 0 → ⊥) → at + refused_long ≤ length d
        → Put (fitting refused_long refused_line d at) d at r e → Filled l slots b r e
    unfolding rest
    filled-part n k q =
        record {
          text = p.text ++ refused_line;
          sheet =
              record {
                alone = never;
                lines = p.text;
                rows = λ _. (p.rows, rw (ne_eqb (length l % task_bytes) 0 n));
              };
          put = put_then (omega arith) p.put (rw (refused-is d at k) at q);
        }

-- A place within a list counts its bytes.
pub counts : (n : ℕ) (l : List ℕ) → n ≤ length l → IsPrefixLen n l
counts n l k = (k, sym (length-take-le n l k))
