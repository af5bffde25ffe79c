-- Marks, byte by byte.
use Rattle.std.proofs.Common.{◌≡◌, ℕ, ◌+◌, ◌≤◌, Bool, true, false, not, cond, List, [], ◌∷◌, ◌++◌, length, refl, ap, sym, ◌∙◌, arith, length-append, zero-add, append-nil, append_assoc}
use Rattle.std.specs.List.{count_by, fold, prefix_len}
use Rattle.std.proofs.lemmas.List.{reverse-append}
use Rattle.std.proofs.lemmas.List.Sums.{sum_by-append}
use Rattle.cx_base.specs.declared.diag.Mark.{Mark}
use Rattle.cx_tokens.specs.Bytes.{is_line_feed}
use Rattle.cx_tokens.specs.Marks.{Counts, bytes_in_line, mark_after, mark_of, marks_on}

count_more : (before : List ℕ) (b : ℕ) → count_by is_line_feed (before ++ b ∷ []) ≡ count_by is_line_feed before + cond (is_line_feed b) 1 0
count_more before b = sum_by-append (λ x. cond (is_line_feed x) 1 0) before (b ∷ []) ∙ ap (λ n. count_by is_line_feed before + n) (zero-add _)

chosen : (c : Bool) (n : ℕ) → cond (not c) (1 + n) 0 ≡ cond c 0 (1 + n)
chosen true n = refl
chosen false n = refl

line_more : (before : List ℕ) (b : ℕ) → bytes_in_line (before ++ b ∷ []) ≡ cond (is_line_feed b) 0 (1 + bytes_in_line before)
line_more before b = ap (prefix_len (λ x. not (is_line_feed x))) (reverse-append before (b ∷ [])) ∙ chosen (is_line_feed b) (bytes_in_line before)

marked : (n m k n' m' k' : ℕ) → n ≡ n' → m ≡ m' → k ≡ k' → ◌≡◌ {A = Mark} (record { byte = n; line = m; col = k }) (record { byte = n'; line = m'; col = k' })
marked n m k n' m' k' e f g = cc

line_of : (c : Bool) (n m : ℕ) → m ≡ n + cond c 1 0 → 1 + m ≡ cond c (1 + n + 1) (1 + n)
line_of true n m e = omega arith
line_of false n m e = omega arith

col_of : (c : Bool) (n m : ℕ) → m ≡ cond c 0 (1 + n) → 1 + m ≡ cond c 1 (1 + n + 1)
col_of true n m e = omega arith
col_of false n m e = omega arith

pub mark_more : (before : List ℕ) (b : ℕ) → mark_of (before ++ b ∷ []) ≡ mark_after (mark_of before) b
mark_more before b =
    marked _ _ _ _ _ _ (length-append before (b ∷ [])) (line_of (is_line_feed b) _ _ (count_more before b)) (col_of (is_line_feed b) _ _ (line_more before b))

-- marks count on over more bytes
pub marks_on_is : (before bytes : List ℕ) → marks_on (mark_of before) bytes ≡ mark_of (before ++ bytes)
marks_on_is before [] = ap mark_of (sym (append-nil before))
marks_on_is before (b ∷ bytes) =
    ap (λ m. fold mark_after m bytes) (sym (mark_more before b)) ∙ marks_on_is (before ++ b ∷ []) bytes ∙ ap mark_of (append_assoc before (b ∷ []) bytes)

chosen_below : (n : ℕ) (c : Bool) (x y : ℕ) → x ≤ n → y ≤ n → cond c x y ≤ n
chosen_below n true x y h k = h
chosen_below n false x y h k = k

counts_after : (m : Mark) (n b : ℕ) → Counts m n → Counts (mark_after m b) (n + 1)
counts_after m n b h = record {
  byte = omega (arith, h.byte);
  line = chosen_below (n + 1 + 1) (is_line_feed b) (m.line + 1) m.line (omega (arith, h.line)) (omega (arith, h.line));
  col = chosen_below (n + 1 + 1) (is_line_feed b) 1 (m.col + 1) (omega arith) (omega (arith, h.col));
}

pub counts_on : (m : Mark) (n : ℕ) (bytes : List ℕ) → Counts m n → Counts (marks_on m bytes) (n + length bytes)
counts_on m n [] h = record { byte = omega (arith, h.byte); line = omega (arith, h.line); col = omega (arith, h.col) }
counts_on m n (b ∷ bytes) h =
    let k = counts_on (mark_after m b) (n + 1) bytes (counts_after m n b h) in
    record { byte = omega (arith, k.byte); line = omega (arith, k.line); col = omega (arith, k.col) }
