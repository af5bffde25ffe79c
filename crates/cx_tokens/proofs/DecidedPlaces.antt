-- Scans that end some bytes before the end of what they go over end there too where more bytes follow.
use Rattle.std.proofs.Common.{◌≡◌, ℕ, zero, suc, ◌+◌, ◌<◌, ◌≤◌, Bool, true, false, not, cond, List, [], ◌∷◌, ◌++◌, length, drop, min, refl, ap, ◌∙◌, arith, ◌⊎◌, inl, inr}
use Rattle.std.proofs.lemmas.List.{get_or_append_left}
use Rattle.cx_tokens.specs.Bytes.{byte_at, is_splice, place_where}
use Rattle.cx_tokens.specs.Space.{comment_end_here, line_feed_here}

-- a test that looks at no more than so many bytes
pub record Near (n : ℕ) (test : List ℕ → Bool) : Type 0 where
  pub same : (bytes more : List ℕ) → n ≤ length bytes → test (bytes ++ more) ≡ test bytes

pub byte_stays : (bytes more : List ℕ) (i : ℕ) → i < length bytes → byte_at (bytes ++ more) i ≡ byte_at bytes i
byte_stays bytes more i h = get_or_append_left bytes more 0 i h

chosen_place : (n k p q : ℕ) (c d : Bool) → (n + k ≤ p → q ≡ n) → cond c 0 (1 + n) + k ≤ 1 + p → d ≡ c → cond d 0 (1 + q) ≡ cond c 0 (1 + n)
chosen_place n k p q true d g h e = ap (λ x. cond x 0 (1 + q)) e
chosen_place n k p q false d g h e = ap (λ x. cond x 0 (1 + q)) e ∙ ap (λ x. 1 + x) (g (omega arith))

pub place_stays : (test : List ℕ → Bool) (k : ℕ) → Near k test → 0 < k → (bytes more : List ℕ) → place_where test bytes + k ≤ length bytes
    → place_where test (bytes ++ more) ≡ place_where test bytes
place_stays test k near some [] more h = absurd (omega arith)
place_stays test k near some (b ∷ bytes) more h =
    let fits : k ≤ length (b ∷ bytes) = omega arith in
    let e : test (b ∷ bytes ++ more) ≡ test (b ∷ bytes) = near.same (b ∷ bytes) more fits in
    chosen_place (place_where test bytes) k (length bytes) (place_where test (bytes ++ more)) (test (b ∷ bytes)) (test (b ∷ bytes ++ more))
    (place_stays test k near some bytes more) (omega arith) e

chosen_beyond : (n p q : ℕ) (c d : Bool) → d ≡ c → suc n ≤ cond c 0 (1 + p) → (n ≤ p → n ≤ q) → suc n ≤ cond d 0 (1 + q)
chosen_beyond n p q true d e h f = absurd (omega arith)
chosen_beyond n p q false true e h f = cc
chosen_beyond n p q false false e h f = let g : n ≤ q = f (omega arith) in omega arith

place_beyond : (test : List ℕ → Bool) (k n : ℕ) → Near k test → 0 < k → (bytes more : List ℕ) → n + k ≤ length bytes + 1 → n ≤ place_where test bytes
    → n ≤ place_where test (bytes ++ more)
place_beyond test k zero near some bytes more h p = omega arith
place_beyond test k (suc n) near some [] more h p = absurd (omega arith)
place_beyond test k (suc n) near some (b ∷ bytes) more h p =
    chosen_beyond n (place_where test bytes) (place_where test (bytes ++ more)) (test (b ∷ bytes)) (test (b ∷ bytes ++ more))
    (near.same (b ∷ bytes) more (omega arith)) p (place_beyond test k n near some bytes more (omega arith))

least : (n p q k all : ℕ) → (n ≤ p) ⊎ (p ≤ n) → min n p + k ≤ all → (p + k ≤ all → q ≡ p) → (n + k ≤ all + 1 → n ≤ p → n ≤ q) → min n q ≡ min n p
least n p q k all (inl l) h stays beyond = let b : n ≤ q = beyond (omega arith) l in omega arith
least n p q k all (inr l) h stays beyond = ap (min n) (stays (omega arith))

either_way : (n p : ℕ) → (n ≤ p) ⊎ (p ≤ n)
either_way zero p = inl (omega arith)
either_way (suc n) zero = inr (omega arith)
either_way (suc n) (suc p) = elim (either_way n p) [ inl h ↦ inl (omega arith) | inr h ↦ inr (omega arith) ]

-- the first place among the first n bytes
pub least_stays : (test : List ℕ → Bool) (k n : ℕ) → Near k test → 0 < k → (bytes more : List ℕ) → min n (place_where test bytes) + k ≤ length bytes
    → min n (place_where test (bytes ++ more)) ≡ min n (place_where test bytes)
least_stays test k n near some bytes more h =
    least n (place_where test bytes) (place_where test (bytes ++ more)) k (length bytes) (either_way n (place_where test bytes)) h
    (place_stays test k near some bytes more) (place_beyond test k n near some bytes more)

before_chosen : (p q : ℕ) (c d : Bool) → (c ≡ true → d ≡ true) → p ≤ q → cond d 0 (1 + p) ≤ cond c 0 (1 + q)
before_chosen p q true d f h = let e : d ≡ true = f refl in rw e (omega arith)
before_chosen p q false true f h = omega arith
before_chosen p q false false f h = omega arith

-- a test that holds wherever another does holds no later
pub place_before : (late early : List ℕ → Bool) → ((bytes : List ℕ) → late bytes ≡ true → early bytes ≡ true) → (bytes : List ℕ)
    → place_where early bytes ≤ place_where late bytes
place_before late early h [] = omega arith
place_before late early h (b ∷ bytes) =
    before_chosen (place_where early bytes) (place_where late bytes) (late (b ∷ bytes)) (early (b ∷ bytes)) (h (b ∷ bytes)) (place_before late early h bytes)

drop_chosen : (n p q : ℕ) (c : Bool) → suc n ≤ cond c 0 (1 + p) → (n ≤ p → p ≡ n + q) → cond c 0 (1 + p) ≡ suc n + q
drop_chosen n p q true h f = absurd (omega arith)
drop_chosen n p q false h f = let e : p ≡ n + q = f (omega arith) in omega arith

-- from a place before it on it is as much nearer
pub place_drop : (test : List ℕ → Bool) (n : ℕ) (bytes : List ℕ) → n ≤ place_where test bytes → place_where test bytes ≡ n + place_where test (drop n bytes)
place_drop test zero bytes h = omega arith
place_drop test (suc n) [] h = absurd (omega arith)
place_drop test (suc n) (b ∷ bytes) h =
    drop_chosen n (place_where test bytes) (place_where test (drop n bytes)) (test (b ∷ bytes)) h (place_drop test n bytes)

first_same : (test : ℕ → Bool) (bytes more : List ℕ) → 1 ≤ length bytes → not (test (byte_at (bytes ++ more) 0)) ≡ not (test (byte_at bytes 0))
first_same test [] more h = absurd (omega arith)
first_same test (a ∷ bytes) more h = refl

line_feed_same : (bytes more : List ℕ) → 1 ≤ length bytes → line_feed_here (bytes ++ more) ≡ line_feed_here bytes
line_feed_same [] more h = absurd (omega arith)
line_feed_same (a ∷ bytes) more h = refl

comment_same : (bytes more : List ℕ) → 2 ≤ length bytes → comment_end_here (bytes ++ more) ≡ comment_end_here bytes
comment_same [] more h = absurd (omega arith)
comment_same (a ∷ []) more h = absurd (omega arith)
comment_same (a ∷ b ∷ bytes) more h = refl

pub splice_same : (bytes more : List ℕ) → 3 ≤ length bytes → is_splice (bytes ++ more) ≡ is_splice bytes
splice_same [] more h = absurd (omega arith)
splice_same (a ∷ []) more h = absurd (omega arith)
splice_same (a ∷ b ∷ []) more h = absurd (omega arith)
splice_same (a ∷ b ∷ c ∷ bytes) more h = refl

-- tests of the first byte, of the first two, of the first three
pub first_near : (test : ℕ → Bool) → Near 1 (λ rest. not (test (byte_at rest 0)))
first_near test = record { same = λ bytes more h. first_same test bytes more h }

pub line_feed_near : Near 1 line_feed_here
line_feed_near = record { same = λ bytes more h. line_feed_same bytes more h }

pub comment_near : Near 2 comment_end_here
comment_near = record { same = λ bytes more h. comment_same bytes more h }

pub splice_near : Near 3 is_splice
splice_near = record { same = λ bytes more h. splice_same bytes more h }
