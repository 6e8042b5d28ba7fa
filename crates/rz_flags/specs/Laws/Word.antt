-- The word of flags gives the flags back.
use Rattle.std.proofs.Common.{◌≡◌, ℕ, ◌+◌, ◌*◌, ◌/◌, ◌%◌, ◌^◌, ◌≤◌, Bool, true, false, ◌==◌, Some, refl, arith, ◌∙◌, ap}
use Rattle.rz_flags.specs.declared.Flags.{Flags}
use Rattle.rz_flags.specs.Word.{flags_word, flags_in, is_set, bit_of}

-- a flag as a number, and the worth of its place
bit : Bool → ℕ
bit true = 1
bit false = 0

low : (b : Bool) → bit b ≤ 1
unfolding bit
low true = omega arith
low false = omega arith

worth : (b : Bool) (n : ℕ) → bit_of b n ≡ n * bit b
unfolding bit
worth true n = omega arith
worth false n = omega arith

reads : (b : Bool) → (bit b == 1) ≡ b
unfolding bit
reads true = refl
reads false = refl

word_of : Flags → ℕ
word_of f = 0x202 + 1 * bit f.cf + 4 * bit f.pf + 16 * bit f.af + 64 * bit f.zf + 128 * bit f.sf + 1024 * bit f.df + 2048 * bit f.of

word_is : (f : Flags) → flags_word f ≡ word_of f
unfolding word_of
word_is f = omega (arith, worth f.cf 1, worth f.pf 4, worth f.af 16, worth f.zf 64, worth f.sf 128, worth f.df 1024, worth f.of 2048)

-- each flag stands at its place, and no other flag is set
module _ (f : Flags) where
  cf_at : is_set (flags_word f) 0 ≡ f.cf
  unfolding word_of
  cf_at = let e : word_of f / 2 ^ 0 % 2 ≡ bit f.cf = omega (arith, low f.cf, low f.pf, low f.af, low f.zf, low f.sf, low f.df, low f.of) in ap (λ n. n / 2 ^ 0 % 2 == 1) (word_is f) ∙ ap (λ n. n == 1) e ∙ reads f.cf

  pf_at : is_set (flags_word f) 2 ≡ f.pf
  unfolding word_of
  pf_at = let e : word_of f / 2 ^ 2 % 2 ≡ bit f.pf = omega (arith, low f.cf, low f.pf, low f.af, low f.zf, low f.sf, low f.df, low f.of) in ap (λ n. n / 2 ^ 2 % 2 == 1) (word_is f) ∙ ap (λ n. n == 1) e ∙ reads f.pf

  af_at : is_set (flags_word f) 4 ≡ f.af
  unfolding word_of
  af_at = let e : word_of f / 2 ^ 4 % 2 ≡ bit f.af = omega (arith, low f.cf, low f.pf, low f.af, low f.zf, low f.sf, low f.df, low f.of) in ap (λ n. n / 2 ^ 4 % 2 == 1) (word_is f) ∙ ap (λ n. n == 1) e ∙ reads f.af

  zf_at : is_set (flags_word f) 6 ≡ f.zf
  unfolding word_of
  zf_at = let e : word_of f / 2 ^ 6 % 2 ≡ bit f.zf = omega (arith, low f.cf, low f.pf, low f.af, low f.zf, low f.sf, low f.df, low f.of) in ap (λ n. n / 2 ^ 6 % 2 == 1) (word_is f) ∙ ap (λ n. n == 1) e ∙ reads f.zf

  sf_at : is_set (flags_word f) 7 ≡ f.sf
  unfolding word_of
  sf_at = let e : word_of f / 2 ^ 7 % 2 ≡ bit f.sf = omega (arith, low f.cf, low f.pf, low f.af, low f.zf, low f.sf, low f.df, low f.of) in ap (λ n. n / 2 ^ 7 % 2 == 1) (word_is f) ∙ ap (λ n. n == 1) e ∙ reads f.sf

  df_at : is_set (flags_word f) 10 ≡ f.df
  unfolding word_of
  df_at = let e : word_of f / 2 ^ 10 % 2 ≡ bit f.df = omega (arith, low f.cf, low f.pf, low f.af, low f.zf, low f.sf, low f.df, low f.of) in ap (λ n. n / 2 ^ 10 % 2 == 1) (word_is f) ∙ ap (λ n. n == 1) e ∙ reads f.df

  of_at : is_set (flags_word f) 11 ≡ f.of
  unfolding word_of
  of_at = let e : word_of f / 2 ^ 11 % 2 ≡ bit f.of = omega (arith, low f.cf, low f.pf, low f.af, low f.zf, low f.sf, low f.df, low f.of) in ap (λ n. n / 2 ^ 11 % 2 == 1) (word_is f) ∙ ap (λ n. n == 1) e ∙ reads f.of

  clear_8 : is_set (flags_word f) 8 ≡ false
  unfolding word_of
  clear_8 = let e : word_of f / 2 ^ 8 % 2 ≡ 0 = omega (arith, low f.cf, low f.pf, low f.af, low f.zf, low f.sf, low f.df, low f.of) in ap (λ n. n / 2 ^ 8 % 2 == 1) (word_is f) ∙ ap (λ n. n == 1) e

  clear_14 : is_set (flags_word f) 14 ≡ false
  unfolding word_of
  clear_14 = let e : word_of f / 2 ^ 14 % 2 ≡ 0 = omega (arith, low f.cf, low f.pf, low f.af, low f.zf, low f.sf, low f.df, low f.of) in ap (λ n. n / 2 ^ 14 % 2 == 1) (word_is f) ∙ ap (λ n. n == 1) e

  clear_18 : is_set (flags_word f) 18 ≡ false
  unfolding word_of
  clear_18 = let e : word_of f / 2 ^ 18 % 2 ≡ 0 = omega (arith, low f.cf, low f.pf, low f.af, low f.zf, low f.sf, low f.df, low f.of) in ap (λ n. n / 2 ^ 18 % 2 == 1) (word_is f) ∙ ap (λ n. n == 1) e

  clear_21 : is_set (flags_word f) 21 ≡ false
  unfolding word_of
  clear_21 = let e : word_of f / 2 ^ 21 % 2 ≡ 0 = omega (arith, low f.cf, low f.pf, low f.af, low f.zf, low f.sf, low f.df, low f.of) in ap (λ n. n / 2 ^ 21 % 2 == 1) (word_is f) ∙ ap (λ n. n == 1) e

  pub flags_in-flags_word : flags_in (flags_word f) ≡ Some f
  flags_in-flags_word = rw (clear_8, clear_14, clear_18, clear_21) (ap Some (λ i. record { cf = cf_at i; pf = pf_at i; af = af_at i; zf = zf_at i; sf = sf_at i; df = df_at i; of = of_at i }))
