-- The block store's lists: two chains and one block change.
use Rattle.std.proofs.Common.{◌≡◌, ℕ, zero, suc, ◌+◌, ◌-◌, ◌<◌, ◌≤◌, false, cond, ltb, List, ◌++◌, length, take, set, replicate, Some, None, sum_by, sym, ap, ◌∙◌, subst, inl, inr, add-one, arith}
use Rattle.std.proofs.lemmas.Grind.{common_steps}
use Rattle.std.proofs.lemmas.List.{get_or-set_same, get_or-set_other, get_or-replicate, length-replicate, length-set, ext_get_or}
use Rattle.std.proofs.lemmas.List.Folds.{sum_by-replicate}
use Rattle.std.proofs.lemmas.List.Sums.{sum_by-set, get_or-le-sum_by}
use Rattle.std.proofs.lemmas.Bool.{cases_eq}
use Rattle.store.specs.Files.{File, key_count, file_at}
use Rattle.block_store.specs.Walks.{chain_count, walk, content, Within}
use Rattle.block_store.specs.Chained.{blank, none, next_in, words_in, chain_at, first_in, blocks_in, chain_content, chain_file, chain_files, Linked, Full, AllFull, Kept}
use Rattle.block_store.specs.declared.cells.Block.{Block}
use Rattle.block_store.specs.Lent.{chain_of, files_in, units_in}
use Rattle.block_store.specs.declared.cells.Chain.{Chain}
use Rattle.block_store.specs.declared.chains.Chains.{Chains}
use Rattle.block_store.proofs.FileFacts.{files_set, files_long, key_file, empty_file}
use Rattle.block_store.proofs.WalkFacts.{content_same, shift_within, shift_apart}

abbrev count : Chain → ℕ
count e = e.blocks

-- two chains hold together no more blocks than there are
pub two_le : (m : Chains) (f t : ℕ) → f < chain_count → t < chain_count → (f ≡ t → ⊥) → (chain_of m f).blocks + (chain_of m t).blocks ≤ units_in m
two_le m f t fl tl ne =
    let dir = m.dir.now in
    omega (
      arith,
      m.linked.1,
      sum_by-set count dir f none none (omega (arith, m.linked.0)),
      get_or-le-sum_by count (set dir f none) t none (omega (arith, m.linked.0, length-set dir f none)),
      ap count (get_or-set_other dir f t none none (λ e. ne (sym e))),
    )

-- the first block of f becomes the first of t
module _
    (m : Chains) (f t : ℕ) (ws : List ℕ) (len : ℕ)
    (fl : f < chain_count) (tl : t < chain_count) (ne : f ≡ t → ⊥) (some : 0 < (chain_of m f).blocks) (four : length ws ≡ 4)
  where
    abbrev dir : List Chain
    dir = m.dir.now

    abbrev bs : List Block
    bs = m.blocks.now

    abbrev linked : Linked dir bs
    linked = m.linked

    abbrev blk : Block
    blk = record { next = first_in dir t; seen = false; words = ws }

    abbrev e : Chain
    e = record { first = next_in bs (first_in dir f); blocks = blocks_in dir f - 1; len = (chain_at dir f).len }

    abbrev g : Chain
    g = record { first = first_in dir f; blocks = blocks_in dir t + 1; len = len }

    fewer : blocks_in dir f - 1 + 1 ≡ blocks_in dir f
    fewer = omega arith

    abbrev mid : List Chain
    mid = set dir f e

    abbrev dir' : List Chain
    dir' = set mid t g

    abbrev b : ℕ
    b = first_in dir f

    abbrev bs' : List Block
    bs' = set bs b blk

    in_range : b < length bs
    in_range = linked.3 f 0 fl some

    mid_long : length mid ≡ chain_count
    mid_long = length-set dir f e ∙ linked.0

    pub at_from : chain_at dir' f ≡ e
    at_from = get_or-set_other mid t f g none ne ∙ get_or-set_same dir f e none (omega (arith, linked.0))

    pub at_to : chain_at dir' t ≡ g
    at_to = get_or-set_same mid t g none (omega (arith, mid_long))

    pub at_other : (j : ℕ) → (j ≡ f → ⊥) → (j ≡ t → ⊥) → chain_at dir' j ≡ chain_at dir j
    at_other j p q = get_or-set_other mid t j g none q ∙ get_or-set_other dir f j e none p

    next_here : next_in bs' b ≡ blk.next
    next_here = ap (λ x. x.next) (get_or-set_same bs b blk blank in_range)

    next_other : (p : ℕ) → (p ≡ b → ⊥) → next_in bs' p ≡ next_in bs p
    next_other p h = ap (λ x. x.next) (get_or-set_other bs b p blk blank h)

    words_here : words_in bs' b ≡ blk.words
    words_here = ap (λ x. x.words) (get_or-set_same bs b blk blank in_range)

    words_other : (p : ℕ) → (p ≡ b → ⊥) → words_in bs' p ≡ words_in bs p
    words_other p h = ap (λ x. x.words) (get_or-set_other bs b p blk blank h)

    wide : (p : ℕ) → p < length bs' → length (words_in bs' p) ≡ 4
    wide p h = grind (arith, common_steps, linked.2 p)

    first_other : (j : ℕ) → j < chain_count → (j ≡ f → ⊥) → (j ≡ t → ⊥) → first_in dir' j ≡ first_in dir j
    first_other j jl p q = ap (λ x. x.first) (at_other j p q)

    blocks_other : (j : ℕ) → j < chain_count → (j ≡ f → ⊥) → (j ≡ t → ⊥) → blocks_in dir' j ≡ blocks_in dir j
    blocks_other j jl p q = ap count (at_other j p q)

    pub shift_linked : Linked dir' bs'
    shift_linked = (
      length-set mid t g ∙ mid_long,
      omega (arith, linked.1, sum_by-set count dir f e none (omega (arith, linked.0)), sum_by-set count mid t g none (omega (arith, mid_long)), ap count (get_or-set_other dir f t e none (λ q. ne (sym q))), length-set bs b blk),
      wide,
      subst (λ (m : ℕ). Within (next_in bs') (first_in dir') (blocks_in dir') m) (sym (length-set bs b blk))
          (shift_within (next_in bs) (next_in bs') (first_in dir) (first_in dir') (blocks_in dir) (blocks_in dir') (length bs) f t linked.3 linked.4 fl tl ne some next_here next_other (ap (λ x. x.first) at_from) (ap (λ x. x.first) at_to) first_other (ap (λ x. x.blocks + 1) at_from ∙ fewer) (ap count at_to) blocks_other),
      shift_apart (next_in bs) (next_in bs') (first_in dir) (first_in dir') (blocks_in dir) (blocks_in dir') (length bs) f t linked.3 linked.4 fl tl ne some next_here next_other (ap (λ x. x.first) at_from) (ap (λ x. x.first) at_to) first_other (ap (λ x. x.blocks + 1) at_from ∙ fewer) (ap count at_to) blocks_other,
    )

    -- a chain other than f does not meet the block
    content_kept : (j : ℕ) → j < chain_count → (j ≡ f → ⊥) → chain_content bs' (chain_at dir j) ≡ chain_content bs (chain_at dir j)
    content_kept j jl p =
        content_same (next_in bs) (next_in bs') (words_in bs) (words_in bs') b next_other words_other (blocks_in dir j) (first_in dir j)
        (λ m h q. p (linked.4 j f m 0 jl fl h some q).0)

    pub shift_other : (j : ℕ) → (j ≡ f → ⊥) → (j ≡ t → ⊥) → j < chain_count → (chain_at dir' j ≡ chain_at dir j) × (chain_file bs' (chain_at dir' j) ≡ chain_file bs (chain_at dir j))
    shift_other j p q jl = (
      at_other j p q,
      ap (chain_file bs') (at_other j p q)
          ∙ ap (λ c. cond (ltb 0 (blocks_in dir j)) (Some (take (chain_at dir j).len c)) None) (content_kept j jl p),
    )

    pub shift_content : chain_content bs' (chain_at dir' t) ≡ blk.words ++ chain_content bs (chain_at dir t)
    shift_content =
        ap (chain_content bs') at_to
        ∙ ap (λ (c : ℕ). content (next_in bs') (words_in bs') c b) (add-one _)
        ∙ ap (λ ws. ws ++ content (next_in bs') (words_in bs') (blocks_in dir t) (next_in bs' b)) words_here
        ∙ ap (λ (p : ℕ). blk.words ++ content (next_in bs') (words_in bs') (blocks_in dir t) p) next_here
        ∙ ap (λ c. blk.words ++ c) (content_kept t tl (λ q. ne (sym q)))

-- the chain of one key becomes that of another, which has none
module _
    (n m : Chains) (from to : ℕ) (full : AllFull n.dir.now) (same : m.blocks.now ≡ n.blocks.now) (fl : from < key_count) (tl : to < key_count) (gone : (chain_of n to).blocks ≡ 0)
    (at_from : chain_of m from ≡ chain_of n to) (at_to : chain_of m to ≡ chain_of n from) (at_other : (j : ℕ) → (j ≡ from → ⊥) → (j ≡ to → ⊥) → chain_of m j ≡ chain_of n j)
  where
    pub renamed_kept : Kept m.dir.now m.blocks.now
    renamed_kept = (m.linked, λ j jl. grind (arith, common_steps, full j, full from, at_other j))

    -- the file under key j is that of a chain of n
    file_now : (j : ℕ) (e : Chain) → j < key_count → chain_of m j ≡ e → file_at (files_in m) j ≡ chain_file n.blocks.now e
    file_now j e jl is = key_file m.dir.now m.blocks.now m.linked j jl ∙ ap (λ bs. chain_file bs (chain_of m j)) same ∙ ap (chain_file n.blocks.now) is

    file_then : (j : ℕ) → j < key_count → chain_file n.blocks.now (chain_of n j) ≡ file_at (files_in n) j
    file_then j jl = sym (key_file n.dir.now n.blocks.now n.linked j jl)

    pub renamed_files : files_in m ≡ set (set (files_in n) to (file_at (files_in n) from)) from None
    renamed_files =
        let fs = files_in n in
        let long = files_long n.dir.now n.blocks.now n.linked in
        files_set (files_in m) (set fs to (file_at fs from)) from None (files_long m.dir.now m.blocks.now m.linked) (length-set fs to (file_at fs from) ∙ long) fl
        (file_now from (chain_of n to) fl at_from ∙ empty_file n.blocks.now (chain_of n to) (omega arith))
        (λ j a jl.
        elim (cases_eq j to) [
          | inl q ↦ (
              ap (file_at (files_in m)) q ∙ file_now to (chain_of n from) tl at_to ∙ file_then from fl
              ∙ sym (ap (file_at (set fs to (file_at fs from))) q ∙ get_or-set_same fs to (file_at fs from) None (omega (arith, long))))
          | inr b ↦ file_now j (chain_of n j) jl (at_other j a b) ∙ file_then j jl ∙ sym (get_or-set_other fs to j (file_at fs from) None b)
        ])

-- a new store: no chain but the free one, which is all blocks in their order
walk_line : (nx : ℕ → ℕ) (m : ℕ) → ((p : ℕ) → p < m → nx p ≡ p + 1) → (i p : ℕ) → p + i ≤ m → walk nx i p ≡ p + i
walk_line nx m h zero p l = omega arith
walk_line nx m h (suc i) p l = ap (walk nx i) (h p (omega arith)) ∙ walk_line nx m h i (p + 1) (omega arith) ∙ omega arith

module _ (bs : List Block) (dir : List Chain) (empty : dir ≡ replicate chain_count none)
    (line : (p : ℕ) → p < length bs → next_in bs p ≡ p + 1) (wide : (p : ℕ) → p < length bs → length (words_in bs p) ≡ 4) where
  abbrev rest : Chain
  rest = record { first = 0; blocks = length bs; len = 0 }

  abbrev ndir : List Chain
  ndir = set dir key_count rest

  long : length dir ≡ chain_count
  long = ap length empty ∙ length-replicate chain_count none

  was_none : (k : ℕ) → k < chain_count → chain_at dir k ≡ none
  was_none k h = ap (λ d. chain_at d k) empty ∙ get_or-replicate chain_count k none none h

  n_free : chain_at ndir key_count ≡ rest
  n_free = get_or-set_same dir key_count rest none (omega (arith, long))

  n_key : (k : ℕ) → k < key_count → chain_at ndir k ≡ none
  n_key k h = get_or-set_other dir key_count k rest none (λ e. omega arith) ∙ was_none k (omega arith)

  -- only the free chain has blocks, and its i-th is i
  n_at : (k i : ℕ) → k < chain_count → i < blocks_in ndir k → (k ≡ key_count) × (walk (next_in bs) i (first_in ndir k) ≡ i) × (i < length bs)
  n_at k i l h =
      elim (cases_eq k key_count) [
        | inl e ↦ (
            let r : chain_at ndir k ≡ rest = ap (chain_at ndir) e ∙ n_free in
            let b : i < length bs = omega (arith, ap count r) in
            (e, ap (λ (c : Chain). walk (next_in bs) i c.first) r ∙ walk_line (next_in bs) (length bs) line i 0 (omega arith) ∙ omega arith, b))
        | inr a ↦ absurd (omega (arith, ap count (n_key k (omega arith))))
      ]

  pub new_kept : Kept ndir bs
  new_kept = (
    (
      length-set dir key_count rest ∙ long,
      omega (arith, sum_by-set count dir key_count rest none (omega (arith, long)), ap (sum_by count) empty, sum_by-replicate count chain_count none, ap count (was_none key_count (omega arith))),
      wide,
      (λ k i l h. let w = n_at k i l h in omega (arith, w.1, w.2)),
      (λ j k i m jl kl hi hm e. let a = n_at j i jl hi in let b = n_at k m kl hm in (omega (arith, a.0, b.0), omega (arith, a.1, b.1, e))),
    ),
    (λ k h. subst (λ (e : Chain). Full e) (sym (n_key k h)) (λ g. absurd (omega arith))),
  )

  pub new_files : chain_files ndir bs ≡ replicate key_count None
  new_files =
      ext_get_or None (chain_files ndir bs) (replicate key_count None) (files_long ndir bs new_kept.0 ∙ sym (length-replicate {A = File} key_count None))
      (λ k h.
      let kl : k < key_count = omega (arith, files_long ndir bs new_kept.0) in
      key_file ndir bs new_kept.0 k kl ∙ ap (chain_file bs) (n_key k kl) ∙ sym (get_or-replicate key_count k None None kl))
