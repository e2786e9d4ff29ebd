-- Blocks of which only the mark is written, and the chains that are marked.
use Rattle.std.proofs.Common.{◌≡◌, ℕ, zero, suc, ◌+◌, ◌<◌, ◌≤◌, true, false, cond, List, [], ◌∷◌, length, take, set, sum_by, count_by, sym, refl, ap, ◌∙◌, subst, add-one, arith}
use mathlib.Core.Path.{fun_ext}
use Rattle.std.proofs.lemmas.Grind.{common_steps}
use Rattle.std.proofs.lemmas.List.Sums.{count_by_more_yes, sum_by-set, sum_by_more}
use Rattle.store.specs.Files.{key_count}
use Rattle.block_store.specs.Walks.{chain_count, walk}
use Rattle.block_store.specs.Chained.{blank, none, next_in, words_in, chain_at, first_in, blocks_in, Full}
use Rattle.block_store.specs.Taking.{Good, Whole, Damaged, seen_in, unseen, Fresh, Marked, Untouched, Marks}
use Rattle.block_store.specs.declared.cells.Block.{Block}
use Rattle.block_store.specs.declared.cells.Chain.{Chain}
use Rattle.block_store.proofs.WalkFacts.{walk_same, walk_more}

-- a mark more
abbrev lack : Block → ℕ
lack b = cond (unseen b) 1 0

module _
    (bs now : List Block) (i p b : ℕ) (blk : Block) (long : length now ≡ length bs) (here : b ≡ walk (next_in bs) i p) (same : Untouched now bs) (fresh : Fresh bs i p) (marked : Marked bs now i p)
    (low : b < length now) (off : seen_in now b ≡ false) (on : blk.seen ≡ true) (next : blk.next ≡ next_in now b) (words : blk.words ≡ words_in now b) (wide : length (words_in (set now b blk) b) ≡ 4)
  where
    abbrev new : List Block
    new = set now b blk

    mark_same : Untouched new bs
    mark_same = (λ q. grind (arith, common_steps, same.0 q), λ q. grind (arith, common_steps, same.1 q))

    more_fresh : Fresh bs (i + 1) p
    more_fresh = grind (arith, common_steps)

    more_marked : Marked bs new (i + 1) p
    more_marked = (
      (λ j l. grind (arith, common_steps)),
      (λ q h. grind (arith, common_steps, marked.1 q)),
      (λ q h. grind (arith, common_steps, marked.2 q)),
      grind (arith, common_steps, sum_by-set lack now b blk blank low, marked.3),
      (λ j l. grind (arith, common_steps, marked.4 j)),
    )

    -- and where the next one is
    pub one_more : (r : ℕ) → r ≡ next_in new b → (r ≡ walk (next_in bs) (i + 1) p) × Untouched new bs × Fresh bs (i + 1) p × Marked bs new (i + 1) p
    one_more r e = (grind (arith, common_steps, add-one i, walk_more (next_in bs) i p, same.0 b), mark_same, more_fresh, more_marked)

all_lack : (bs : List Block) → ((q : ℕ) → seen_in bs q ≡ false) → count_by unseen bs ≡ length bs
all_lack [] h = refl
all_lack (b ∷ bs) h = let rest = all_lack bs (λ q. h (suc q)) in let here = h 0 in grind (arith, common_steps)

pub no_marks : (dir : List Chain) (bs : List Block) → ((q : ℕ) → seen_in bs q ≡ false) → Marks dir bs 0
no_marks dir bs h = let off = all_lack bs h in grind (arith, common_steps)

-- what is said of chains depends on where blocks lead alone
good_same : (dir : List Chain) (nx nx' : ℕ → ℕ) (m k : ℕ) → ((q : ℕ) → nx' q ≡ nx q) → Good dir nx' m k → Good dir nx m k
good_same dir nx nx' m k e g = subst (λ (f : ℕ → ℕ). Good dir f m k) (fun_ext e) g

module _ (dir : List Chain) (bs : List Block) (k : ℕ) (long : length dir ≡ chain_count) (kl : k < key_count) (marks : Marks dir bs k) where
  -- a good chain is fresh
  good_fresh : Good dir (next_in bs) (length bs) (k + 1) → Fresh bs (blocks_in dir k) (first_in dir k)
  good_fresh good = grind (arith, common_steps)

  -- and the other way round
  fresh_good : Full (chain_at dir k) → Fresh bs (blocks_in dir k) (first_in dir k) → Good dir (next_in bs) (length bs) (k + 1)
  fresh_good full fresh = (
    (λ j l. grind (arith, common_steps, marks.0.0 j)),
    (λ j i l h. grind (arith, common_steps, marks.0.1 j i)),
    (λ j l i n jl ll h g e. grind (arith, common_steps, marks.0.2 j l i n, marks.1 j i, marks.1 l n, fresh.0 i, fresh.0 n, fresh.1 i n)),
  )

  pub bad_full : (Full (chain_at dir k) → ⊥) → Good dir (next_in bs) (length bs) (k + 1) → ⊥
  bad_full h good = h (good.0 k (omega arith))

  pub bad_stale : (Fresh bs (blocks_in dir k) (first_in dir k) → ⊥) → Good dir (next_in bs) (length bs) (k + 1) → ⊥
  bad_stale h good = h (good_fresh good)

  -- one chain more has its marks
  pub more_marks : (new : List Block) → length new ≡ length bs → Untouched new bs → Full (chain_at dir k) → Fresh bs (blocks_in dir k) (first_in dir k) → Marked bs new (blocks_in dir k) (first_in dir k) → Marks dir new (k + 1)
  more_marks new l same full fresh marked =
      subst (λ (f : ℕ → ℕ). Good dir f (length new) (k + 1)
      × ((j i : ℕ) → j < k + 1 → i < blocks_in dir j → (seen_in new (walk f i (first_in dir j)) ≡ true) × (length (words_in new (walk f i (first_in dir j))) ≡ 4))
      × ((q : ℕ) → seen_in new q ≡ true → (j : ℕ) × (i : ℕ) × (j < k + 1) × (i < blocks_in dir j) × (walk f i (first_in dir j) ≡ q))
      × (count_by unseen new + sum_by (λ e. e.blocks) (take (k + 1) dir) ≡ length new)) (fun_ext (λ q. sym (same.0 q))) (
        subst (λ (n : ℕ). Good dir (next_in bs) n (k + 1)) (sym l) (fresh_good full fresh),
        (λ j i jl h. grind (arith, common_steps, marks.1 j i)),
        (λ q on. grind (arith, common_steps, marked.2 q, marks.2 q)),
        omega (arith, marks.3, marked.3, sum_by_more (λ (e : Chain). e.blocks) dir k none (omega arith)),
      )

pub whole : (dir : List Chain) (bs new : List Block) (k : ℕ) → k ≡ key_count → length new ≡ length bs → Untouched new bs → Marks dir new k → Whole dir bs
whole dir bs new k e l same marks =
    subst (λ (x : ℕ). Good dir (next_in bs) (length bs) x) e (subst (λ (n : ℕ). Good dir (next_in bs) n k) l (good_same dir (next_in bs) (next_in new) (length new) k same.0 marks.0))

pub damaged : (dir : List Chain) (bs new : List Block) (k : ℕ) → k < key_count → length new ≡ length bs → Untouched new bs → Marks dir new k → (Good dir (next_in new) (length new) (k + 1) → ⊥) → Damaged dir bs k
damaged dir bs new k kl l same marks bad = (
  kl,
  subst (λ (n : ℕ). Good dir (next_in bs) n k) l (good_same dir (next_in bs) (next_in new) (length new) k same.0 marks.0),
  λ good. bad (good_same dir (next_in new) (next_in bs) (length new) (k + 1) (λ q. sym (same.0 q)) (subst (λ (n : ℕ). Good dir (next_in bs) n (k + 1)) (sym l) good)),
)

-- the chain of the blocks without a mark, after the first p
abbrev pub Chained : List Block → List Block → ℕ → ℕ → ℕ → Type 0
Chained old bs p first n =
    (n ≡ count_by unseen (take p old))
    × (n ≤ p)
    × ((q : ℕ) → p ≤ q → seen_in bs q ≡ seen_in old q)
    × ((q : ℕ) → seen_in old q ≡ true → (next_in bs q ≡ next_in old q) × (words_in bs q ≡ words_in old q))
    × ((i : ℕ) → i < n → (walk (next_in bs) i first < p) × (seen_in old (walk (next_in bs) i first) ≡ false))
    × ((i m : ℕ) → i < m → m < n → walk (next_in bs) m first < walk (next_in bs) i first)
    × ((q : ℕ) → q < p → seen_in old q ≡ false → length (words_in bs q) ≡ 4)

module _
    (old bs : List Block) (p first n : ℕ) (long : length bs ≡ length old) (pl : p < length old) (inv : Chained old bs p first n)
    (blk : Block) (free : seen_in bs p ≡ false) (next : blk.next ≡ first) (wide : length blk.words ≡ 4)
  where
    abbrev lbs : List Block
    lbs = set bs p blk

    next_p : next_in lbs p ≡ first
    next_p = grind (arith, common_steps)

    next_o : (q : ℕ) → (q ≡ p → ⊥) → next_in lbs q ≡ next_in bs q
    next_o q h = grind (arith, common_steps)

    -- the walk goes on as before
    on : (i : ℕ) → i < n → walk (next_in lbs) (suc i) p ≡ walk (next_in bs) i first
    on i l = ap (walk (next_in lbs) i) next_p ∙ walk_same (next_in bs) (next_in lbs) p next_o i first (λ m g e. let f = inv.4 m (omega arith) in omega (arith, f.0))

    at : (i : ℕ) → i < n + 1 → (walk (next_in lbs) i p < p + 1) × (seen_in old (walk (next_in lbs) i p) ≡ false)
    at zero l = grind (arith, common_steps, inv.2 p)
    at (suc i) l = let f = inv.4 i (omega arith) in let e = on i (omega arith) in grind (arith, common_steps)

    falls : (i m : ℕ) → i < m → m < n + 1 → walk (next_in lbs) m p < walk (next_in lbs) i p
    falls i zero h g = absurd (omega arith)
    falls zero (suc m) h g = let f = inv.4 m (omega arith) in omega (arith, on m (omega arith), f.0)
    falls (suc i) (suc m) h g = omega (arith, on i (omega arith), on m (omega arith), inv.5 i m (omega arith) (omega arith))

    pub chain_more : Chained old lbs (p + 1) p (n + 1)
    chain_more = (
      grind (arith, common_steps, inv.2 p, count_by_more_yes unseen old p blank pl),
      omega (arith, inv.1),
      (λ q l. grind (arith, common_steps, inv.2 q)),
      (λ q h. grind (arith, common_steps, inv.2 p, inv.3 q)),
      at,
      falls,
      (λ q l off. grind (arith, common_steps, inv.6 q)),
    )

pub same_then : (a b c : List Block) → Untouched a b → Untouched b c → Untouched a c
same_then a b c p q = (λ x. p.0 x ∙ q.0 x, λ x. p.1 x ∙ q.1 x)
