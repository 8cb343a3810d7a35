-- Words: what their bits are, and that two routes share a link where their words have a bit in common.
use Rattle.std.specs.Prelude.{ℕ, zero, suc, ◌+◌, ◌*◌, ◌/◌, ◌%◌, ◌^◌, ◌≤◌, ◌<◌, min, max, List, [], ◌∷◌, ◌≡◌, refl, ltb, eqb, length, get_or, take}
use mathlib.Core.Bool.{Bool, true, false, ◌&&◌, ◌||◌, or-false, or_assoc}
use Rattle.std.specs.List.{fold}
use Rattle.std.proofs.Math.Path.{sym}
use Rattle.std.proofs.Common.{subst, ◌∙◌, mod-lt, div-add-mod', lt_of_le_of_lt, one-mul, add-one, arith, pow_pos, shr_lt, shl_exact, eqb-true, ltb-true, ltb-false, ne_eqb, lt-ltb, le-ltb}
use Rattle.std.proofs.Math.Arith.{digits_div, digits_mod}
use Rattle.std.specs.Int.Bits.{bit_and, bit_or, and_step, or_step, or_zero_r, shifted_half, shifted_even}
use Rattle.std.proofs.lemmas.Nat.{and_le_l, or_lt}
use Rattle.std.proofs.Math.Dec.{eqb-zero-suc, eqb-suc-zero, eqb-suc-suc}
use Rattle.std.proofs.Math.Pow.{pow-lt}
use Rattle.std.proofs.lemmas.Bool.{eqb-false}
use Rattle.request.specs.Check.{has}
use Rattle.request.specs.Sharing.{share_link}
use Rattle.theory.proofs.TestLaws.{by_test, not_both, not_true_false, and_both, and_first, and_second}
use Rattle.meeting.specs.Compact.{link_bit, word_of, share_bit}
use Rattle.meeting.specs.PlanLaws.{shared_link, sharing, share_swap}
use Rattle.meeting.specs.MeetingLaws.{has_take}
use Rattle.meeting.specs.inner.Word.{bit_of, WordOf, all_low}

-- the lower of two digits is 1 where both are
lower_digit : (p q : ℕ) → p < 2 → q < 2 → eqb (min p q) 1 ≡ (eqb p 1 && eqb q 1)
lower_digit zero zero hp hq = refl
lower_digit zero (suc zero) hp hq = refl
lower_digit zero (suc (suc q)) hp hq = absurd (omega arith)
lower_digit (suc zero) zero hp hq = refl
lower_digit (suc zero) (suc zero) hp hq = refl
lower_digit (suc zero) (suc (suc q)) hp hq = absurd (omega arith)
lower_digit (suc (suc p)) q hp hq = absurd (omega arith)

-- the higher is 1 where one of them is
higher_digit : (p q : ℕ) → p < 2 → q < 2 → eqb (max p q) 1 ≡ (eqb p 1 || eqb q 1)
higher_digit zero zero hp hq = refl
higher_digit zero (suc zero) hp hq = refl
higher_digit zero (suc (suc q)) hp hq = absurd (omega arith)
higher_digit (suc zero) zero hp hq = refl
higher_digit (suc zero) (suc zero) hp hq = refl
higher_digit (suc zero) (suc (suc q)) hp hq = absurd (omega arith)
higher_digit (suc (suc p)) q hp hq = absurd (omega arith)

-- a digit
binary : (a : ℕ) → a % 2 < 2
binary a = mod-lt a (omega arith)

-- a bit of what two words have in common
pub and_bit : (x a b : ℕ) → bit_of (bit_and a b) x ≡ (bit_of a x && bit_of b x)
unfolding bit_of
and_bit zero a b =
    let low : min (a % 2) (b % 2) < 2 = omega (arith, binary a, binary b) in
    rw (and_step a b, digits_mod (bit_and (a / 2) (b / 2)) low) (lower_digit (a % 2) (b % 2) (binary a) (binary b))
and_bit (suc x) a b =
    let low : min (a % 2) (b % 2) < 2 = omega (arith, binary a, binary b) in
    rw (and_step a b, digits_div (bit_and (a / 2) (b / 2)) low) (and_bit x (a / 2) (b / 2))

-- a bit of two words joined
pub or_bit : (x a b : ℕ) → bit_of (bit_or a b) x ≡ (bit_of a x || bit_of b x)
unfolding bit_of
or_bit zero a b =
    let low : max (a % 2) (b % 2) < 2 = omega (arith, binary a, binary b) in
    rw (or_step a b, digits_mod (bit_or (a / 2) (b / 2)) low) (higher_digit (a % 2) (b % 2) (binary a) (binary b))
or_bit (suc x) a b =
    let low : max (a % 2) (b % 2) < 2 = omega (arith, binary a, binary b) in
    rw (or_step a b, digits_div (bit_or (a / 2) (b / 2)) low) (or_bit x (a / 2) (b / 2))

-- a word of no bits
pub zero_bit : (x : ℕ) → bit_of 0 x ≡ false
unfolding bit_of
zero_bit zero = refl
zero_bit (suc x) = zero_bit x

-- a word of one bit
pub one_bit : (x k : ℕ) → bit_of (1 * 2 ^ k) x ≡ eqb x k
unfolding bit_of
one_bit zero zero = refl
one_bit zero (suc k) = rw (shifted_even 1 k) (sym (eqb-zero-suc k))
one_bit (suc x) zero = zero_bit x ∙ sym (eqb-suc-zero x)
one_bit (suc x) (suc k) = rw (shifted_half 1 k) (one_bit x k ∙ sym (eqb-suc-suc x k))

-- half of a number of so many bits has one less
half_lt_pow : {a : ℕ} (k : ℕ) → a < 2 ^ suc k → a / 2 < 2 ^ k
half_lt_pow {a} k h = shr_lt k 1 (subst (λ (x : ℕ). a < 2 ^ x) (sym (add-one k)) h)

-- a number without a digit is 0
no_digits : (a : ℕ) → a / 2 ≡ 0 → (a % 2 ≡ 1 → ⊥) → a ≡ 0
no_digits a half even = omega (arith, half, even, binary a, div-add-mod' a 2)

-- digits of the same test are the same
same_digit : (p q : ℕ) → p < 2 → q < 2 → eqb p 1 ≡ eqb q 1 → p ≡ q
same_digit zero zero hp hq e = refl
same_digit zero (suc zero) hp hq e = absurd (mathlib.Core.Bool.false≢true e)
same_digit zero (suc (suc q)) hp hq e = absurd (omega arith)
same_digit (suc zero) zero hp hq e = absurd (mathlib.Core.Bool.false≢true (sym e))
same_digit (suc zero) (suc zero) hp hq e = refl
same_digit (suc zero) (suc (suc q)) hp hq e = absurd (omega arith)
same_digit (suc (suc p)) q hp hq e = absurd (omega arith)

-- a word without a bit is 0
pub no_bits : (k a : ℕ) → a < 2 ^ k → ((x : ℕ) → x < k → bit_of a x ≡ false) → a ≡ 0
unfolding bit_of
no_bits zero a h none = omega arith
no_bits (suc k) a h none =
    let half : a / 2 ≡ 0 = no_bits k (a / 2) (half_lt_pow k h) (λ x l. none (suc x) (omega arith)) in
    let even : (a % 2 ≡ 1) → ⊥ = eqb-false (a % 2) 1 (none 0 (omega arith)) in
    no_digits a half even

-- a number of a list of which all are below 64
low_has : (list : List ℕ) (x : ℕ) → all_low list ≡ true → has x list ≡ true → x < 64
unfolding all_low has
low_has [] x low h = absurd (mathlib.Core.Bool.false≢true h)
low_has (a ∷ list) x low h =
    by_test (eqb x a)
    (λ t. subst (λ (y : ℕ). y < 64) (sym (eqb-true x a t)) (ltb-true a 64 (and_first (ltb a 64) (all_low list) low)))
    (λ f. low_has list x (and_second (ltb a 64) (all_low list) low) (rw f at h))

-- the one number of a list
only_low : (link : ℕ) → link < 64 → (p : ℕ) → p < 1 → get_or (link ∷ []) p 0 < 64
only_low link low zero h = low
only_low link low (suc p) h = absurd (omega arith)

-- a list of numbers below 64 has none that is higher
pub all_low_lem : (list : List ℕ) → ((p : ℕ) → p < length list → get_or list p 0 < 64) → all_low list ≡ true
unfolding all_low
all_low_lem [] low = refl
all_low_lem (a ∷ list) low = rw (lt-ltb a 64 (low 0 (omega arith))) (all_low_lem list (λ p h. low (suc p) (omega arith)))

module _ (r s : List ℕ) (a b : ℕ) (of-r : WordOf r a) (of-s : WordOf s b) where
  -- a bit that both words have is a link of both routes
  common_bit : (x : ℕ) → x < 64 → bit_of (bit_and a b) x ≡ (has x r && has x s)
  common_bit x h = rw (and_bit x a b, of-r.bits x h, of-s.bits x h)

  -- two routes, one of them of low links alone, share a link where their words have a bit in common
  pub share_word : all_low s ≡ true → share_bit a b ≡ share_link r s
  unfolding share_bit
  share_word low =
      by_test (share_link r s)
      (λ t.
      let link = shared_link r s t in
      let both : bit_of (bit_and a b) link.0 ≡ true = common_bit link.0 (low_has s link.0 low link.2) ∙ and_both _ _ link.1 link.2 in
      by_test (eqb (bit_and a b) 0)
      (λ none. not_both (bit_of (bit_and a b) link.0) both (rw (eqb-true (bit_and a b) 0 none) (zero_bit link.0)))
      (λ some. rw (some, t)))
      (λ f.
      let none : bit_and a b ≡ 0 =
      no_bits 64 (bit_and a b) (lt_of_le_of_lt (and_le_l a b) of-r.short)
      (λ x h. not_true_false (bit_of (bit_and a b) x) (λ t.
      let both = sym (common_bit x h) ∙ t in
      not_both (share_link r s) (sharing x r s (and_first (has x r) (has x s) both) (and_second (has x r) (has x s) both)) f)) in
      rw (none, f))

-- a link below 64 is shifted to its place whole
pub bit_low : (link : ℕ) → link < 64 → (1 * 2 ^ link) % 2 ^ 64 ≡ link_bit link
unfolding link_bit
bit_low link h = rw (lt-ltb link 64 h) (shl_exact {a = 1} 1 link 64 (omega arith) (omega arith))

-- another has no bit
pub bit_high : (link : ℕ) → 64 ≤ link → 0 ≡ link_bit link
unfolding link_bit
bit_high link h = rw (le-ltb link 64 h)

-- a link's bit joined to a word
abbrev pub join_link : ℕ → ℕ → ℕ
join_link word link = bit_or word (link_bit link)

-- the word of one link is one
bit_short : (link : ℕ) → link_bit link < 2 ^ 64
unfolding link_bit
bit_short link =
    by_test (ltb link 64)
    (λ t. rw t (subst (λ (n : ℕ). n < 2 ^ 64) (sym (one-mul (2 ^ link))) (pow-lt (ltb-true link 64 t))))
    (λ f. rw f (pow_pos 64))

-- below 64 it has the bit of its link
bit_of_lem : (x link : ℕ) → x < 64 → bit_of (link_bit link) x ≡ eqb x link
unfolding link_bit
bit_of_lem x link h =
    by_test (ltb link 64)
    (λ t. rw t (one_bit x link))
    (λ f. rw f (zero_bit x ∙ sym (ne_eqb x link (λ e. omega (arith, e, ltb-false link 64 f)))))

-- the bits of a list's links, joined to a word one after the other
pub joined_word : (list : List ℕ) (word : ℕ) → word < 2 ^ 64 →
    (fold join_link word list < 2 ^ 64) × ((x : ℕ) → x < 64 → bit_of (fold join_link word list) x ≡ (bit_of word x || has x list))
unfolding has
joined_word [] word short = (short, λ x h. sym (or-false (bit_of word x)))
joined_word (link ∷ list) word short =
    let more = joined_word list (bit_or word (link_bit link)) (or_lt 64 word (link_bit link) short (bit_short link)) in
    (more.0, λ x h. more.1 x h ∙ rw (or_bit x word (link_bit link), bit_of_lem x link h) (or_assoc (bit_of word x) (eqb x link) (has x list)))

-- joined to none they are the word of the list
pub word_joined : (list : List ℕ) → WordOf list (fold join_link 0 list)
word_joined list =
    let all = joined_word list 0 (pow_pos 64) in
    record { short = all.0; bits = λ x h. rw (zero_bit x) at (all.1 x h) }

-- the word of no links
pub word_none : (list : List ℕ) → WordOf (take 0 list) 0
unfolding has
word_none list = record { short = pow_pos 64; bits = λ x h. zero_bit x }

-- the word of one link more
pub word_more : (list : List ℕ) (p word : ℕ) → p < length list → WordOf (take p list) word →
    WordOf (take (p + 1) list) (bit_or word (link_bit (get_or list p 0)))
word_more list p word h known =
    record {
      short = or_lt 64 word (link_bit (get_or list p 0)) known.short (bit_short (get_or list p 0));
      bits = λ x l. rw (or_bit x word (link_bit (get_or list p 0)), known.bits x l, bit_of_lem x (get_or list p 0) l) (sym (has_take x list p h));
    }

-- words of the same bits are the same
same_bits : (k a b : ℕ) → a < 2 ^ k → b < 2 ^ k → ((x : ℕ) → x < k → bit_of a x ≡ bit_of b x) → a ≡ b
unfolding bit_of
same_bits zero a b ha hb same = omega arith
same_bits (suc k) a b ha hb same =
    let half : a / 2 ≡ b / 2 = same_bits k (a / 2) (b / 2) (half_lt_pow k ha) (half_lt_pow k hb) (λ x l. same (suc x) (omega arith)) in
    let digit : a % 2 ≡ b % 2 = same_digit (a % 2) (b % 2) (binary a) (binary b) (same 0 (omega arith)) in
    omega (arith, half, digit, div-add-mod' a 2, div-add-mod' b 2)

-- a list has one word
word_one : (list : List ℕ) (a b : ℕ) → WordOf list a → WordOf list b → a ≡ b
word_one list a b of-a of-b = same_bits 64 a b of-a.short of-b.short (λ x h. of-a.bits x h ∙ sym (of-b.bits x h))

-- it is the word of its numbers
pub word_of_lem : (list : List ℕ) → WordOf list (word_of list)
unfolding word_of has
word_of_lem [] = record { short = pow_pos 64; bits = λ x h. zero_bit x }
word_of_lem (link ∷ list) =
    record {
      short = or_lt 64 (link_bit link) (word_of list) (bit_short link) (word_of_lem list).short;
      bits = λ x h. rw (or_bit x (link_bit link) (word_of list), bit_of_lem x link h, (word_of_lem list).bits x h);
    }

pub word_is : (list : List ℕ) (word : ℕ) → WordOf list word → word ≡ word_of list
word_is list word known = word_one list word (word_of list) known (word_of_lem list)

-- a word has a link's bit where the link stands in its list
pub on_word : (list : List ℕ) (link : ℕ) → link < 64 → share_bit (word_of list) (link_bit link) ≡ has link list
unfolding word_of share_link
on_word list link low =
    let one : WordOf (link ∷ []) (link_bit link) = subst (WordOf (link ∷ [])) (or_zero_r (link_bit link)) (word_of_lem (link ∷ [])) in
    share_word list (link ∷ []) (word_of list) (link_bit link) (word_of_lem list) one (all_low_lem (link ∷ []) (only_low link low))
    ∙ share_swap list (link ∷ [])
    ∙ or-false (has link list)
