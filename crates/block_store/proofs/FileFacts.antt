-- The files of the chains, what they cost, and their parts.
use Rattle.std.proofs.Common.{◌≡◌, ℕ, zero, suc, ◌+◌, ◌-◌, ◌*◌, ◌<◌, ◌≤◌, min, ltb, List, [], ◌∷◌, ◌++◌, map, length, get_or, take, drop, set, true, Option, is_some, Some, None, sum_by, sym, refl, ap, ◌∙◌, subst, inl, inr, arith}
use Rattle.std.proofs.lemmas.Grind.{common_steps}
use Rattle.std.proofs.lemmas.List.{get_or_past, get_or-map, get_or-take, length-set, length-map, length-take, length-append, take_all, take-take, take-append-drop, take-append-le, drop_all, drop_at, drop-drop, drop-take, ext_get_or}
use Rattle.std.proofs.lemmas.List.Sums.{sum_by-cons, sum_by_more}
use Rattle.std.proofs.lemmas.Bool.{cases_lt, both_ways, cond-true, cond-false, lt-ltb, le-ltb}
use Rattle.std.specs.Bool.{then_some}
use Rattle.std.specs.Option.{MatchOption}
use Rattle.store.specs.Files.{File, Files, key_count, cost, file_at, units_of, used, length_of, words_of}
use Rattle.store.proofs.Facts.{used_set, part_none}
use Rattle.block_store.specs.Walks.{chain_count, walk, content}
use Rattle.block_store.specs.Chained.{none, next_in, words_in, chain_at, first_in, blocks_in, chain_content, chain_file, chain_files, Linked, Full, AllFull, Kept}
use Rattle.block_store.specs.declared.cells.Block.{Block}
use Rattle.block_store.specs.Lent.{chain_of, file_of, files_in, Same}
use Rattle.block_store.specs.declared.cells.Chain.{Chain}
use Rattle.block_store.specs.declared.chains.Chains.{Chains}

abbrev count : Chain → ℕ
count e = e.blocks

-- a list of files that differs from another under one key
pub files_set : (fs gs : Files) (k : ℕ) (f : File) → length fs ≡ key_count → length gs ≡ key_count → k < key_count → file_at fs k ≡ f → ((j : ℕ) → (j ≡ k → ⊥) → j < key_count → file_at fs j ≡ file_at gs j) → fs ≡ set gs k f
files_set fs gs k f a b kl here there = ext_get_or None fs (set gs k f) (a ∙ sym (length-set gs k f ∙ b)) (λ j jl. grind (arith, common_steps, there j))

module _ (dir : List Chain) (bs : List Block) (linked : Linked dir bs) where
  front_long : length (take key_count dir) ≡ key_count
  front_long = length-take key_count dir ∙ omega (arith, linked.0)

  pub files_long : length (chain_files dir bs) ≡ key_count
  files_long = length-map (take key_count dir) (chain_file bs) ∙ front_long

  pub key_file : (k : ℕ) → k < key_count → file_at (chain_files dir bs) k ≡ chain_file bs (chain_at dir k)
  key_file k kl = get_or-map (chain_file bs) (take key_count dir) k none None (omega (arith, front_long)) ∙ ap (chain_file bs) (get_or-take key_count dir k none kl)

  pub file_past : (k : ℕ) → key_count ≤ k → file_at (chain_files dir bs) k ≡ None
  file_past k h = get_or_past (chain_files dir bs) k None (omega (arith, files_long))

  pub file_none : (k : ℕ) → k < key_count → blocks_in dir k ≤ 0 → file_at (chain_files dir bs) k ≡ None
  file_none k kl h = key_file k kl ∙ cond-false _ (Some (take (chain_at dir k).len (chain_content bs (chain_at dir k)))) None (le-ltb 0 _ h)

  pub file_some : (k : ℕ) → k < key_count → 0 < blocks_in dir k → file_at (chain_files dir bs) k ≡ Some (take (chain_at dir k).len (chain_content bs (chain_at dir k)))
  file_some k kl h = key_file k kl ∙ cond-true _ _ None (lt-ltb 0 _ h)

  -- the chain of a key, where it has blocks
  abbrev kept_chain : Chain → Option Chain
  kept_chain e = then_some (ltb 0 e.blocks) e

  pub chain_found : (k : ℕ) (e : Chain) → k < key_count → chain_at dir k ≡ e → MatchOption (kept_chain e) (file_at (chain_files dir bs) k ≡ None) (λ x. (k < key_count) × (chain_at dir k ≡ x) × (0 < x.blocks))
  chain_found k e kl is =
      elim (cases_lt 0 e.blocks) [
        | inl h ↦ rw (lt-ltb 0 e.blocks h) (kl, is, h)
        | inr h ↦ rw (le-ltb 0 e.blocks h) (file_none k kl (omega (arith, ap count is)))
      ]

  pub chain_held : (k : ℕ) (e : Chain) → k < key_count → chain_at dir k ≡ e → is_some (kept_chain e) ≡ is_some (file_at (chain_files dir bs) k)
  chain_held k e kl is =
      elim (cases_lt 0 e.blocks) [
        | inl h ↦ rw (lt-ltb 0 e.blocks h) (sym (ap is_some (file_some k kl (omega (arith, ap count is, h)))))
        | inr h ↦ rw (le-ltb 0 e.blocks h) (sym (ap is_some (file_none k kl (omega (arith, ap count is)))))
      ]

-- blocks of four words
module _ (bs : List Block) (wide : (p : ℕ) → p < length bs → length (words_in bs p) ≡ 4) where
  abbrev Ranged : ℕ → ℕ → Type 0
  Ranged c p = (i : ℕ) → i < c → walk (next_in bs) i p < length bs

  length_content : (c p : ℕ) → Ranged c p → length (content (next_in bs) (words_in bs) c p) ≡ 4 * c
  length_content zero p r = refl
  length_content (suc c) p r =
      length-append (words_in bs p) (content (next_in bs) (words_in bs) c (next_in bs p))
      ∙ omega (arith, wide p (r 0 (omega arith)), length_content c (next_in bs p) (λ i h. r (suc i) (omega arith)))

  pub length_file : (e : Chain) → Full e → Ranged e.blocks e.first → 0 < e.blocks → length (take e.len (chain_content bs e)) ≡ e.len
  length_file e f r h = length-take e.len (chain_content bs e) ∙ omega (arith, f h, length_content e.blocks e.first r)

  units_chain : (e : Chain) → Full e → Ranged e.blocks e.first → units_of 4 (chain_file bs e) ≡ e.blocks
  units_chain e f r =
      elim (cases_lt 0 e.blocks) [
        | inl h ↦ ap (units_of 4) (cond-true _ (Some (take e.len (chain_content bs e))) None (lt-ltb 0 _ h)) ∙ omega (arith, length_file e f r h, f h)
        | inr h ↦ ap (units_of 4) (cond-false _ (Some (take e.len (chain_content bs e))) None (le-ltb 0 _ h)) ∙ omega arith
      ]

  used_from : (es : List Chain) → ((k : ℕ) → k < length es → Full (get_or es k none) × Ranged (get_or es k none).blocks (get_or es k none).first) → used 4 (map (chain_file bs) es) ≡ sum_by count es
  used_from [] h = refl
  used_from (e ∷ es) h =
      sum_by-cons (units_of 4) (chain_file bs e) (map (chain_file bs) es)
      ∙ omega (arith, units_chain e (h 0 (omega arith)).0 (h 0 (omega arith)).1, used_from es (λ k l. h (suc k) (omega arith)), sum_by-cons count e es)

  -- the blocks after the first i
  rest_content : (i c p : ℕ) → Ranged c p → i ≤ c → drop (4 * i) (content (next_in bs) (words_in bs) c p) ≡ content (next_in bs) (words_in bs) (c - i) (walk (next_in bs) i p)
  rest_content zero c p r h = let e : c ≡ c - 0 = omega arith in ap (λ (x : ℕ). content (next_in bs) (words_in bs) x p) e
  rest_content (suc i) zero p r h = absurd (omega arith)
  rest_content (suc i) (suc c) p r h =
      let a : 4 * suc i ≡ 4 + 4 * i = omega arith in
      let d : c - i ≡ suc c - suc i = omega arith in
      let rest = content (next_in bs) (words_in bs) c (next_in bs p) in
      ap (λ (x : ℕ). drop x (words_in bs p ++ rest)) a
      ∙ sym (drop-drop (4 * i) 4 (words_in bs p ++ rest))
      ∙ ap (drop (4 * i)) (drop_at (words_in bs p) rest 4 (wide p (r 0 (omega arith))))
      ∙ rest_content i c (next_in bs p) (λ j l. r (suc j) (omega arith)) (omega arith)
      ∙ ap (λ (x : ℕ). content (next_in bs) (words_in bs) x (walk (next_in bs) i (next_in bs p))) d

  pub part_at : (e : Chain) (at : ℕ) → Full e → Ranged e.blocks e.first → at < e.blocks
      → take (min (e.len - 4 * at) 4) (words_in bs (walk (next_in bs) at e.first)) ≡ take 4 (drop (at * 4) (take e.len (chain_content bs e)))
  part_at e at f r h =
      let C = chain_content bs e in
      let q = walk (next_in bs) at e.first in
      let m = e.len - 4 * at in
      let full = f (omega arith) in
      let l : e.len ≡ 4 * at + m = omega (arith, full) in
      let z : at * 4 ≡ 4 * at = omega arith in
      let left : e.blocks - at ≡ suc (e.blocks - at - 1) = omega arith in
      let R = content (next_in bs) (words_in bs) (e.blocks - at - 1) (next_in bs q) in
      let inside : drop (4 * at) C ≡ words_in bs q ++ R = rest_content at e.blocks e.first r (omega arith) ∙ ap (λ (x : ℕ). content (next_in bs) (words_in bs) x q) left in
      sym (
      ap (λ (x : ℕ). take 4 (drop x (take e.len C))) z
      ∙ ap (λ (x : ℕ). take 4 (drop (4 * at) (take x C))) l
      ∙ ap (take 4) (drop-take (4 * at) m C ∙ ap (take m) inside)
      ∙ take_twice m (words_in bs q ++ R)
      ∙ take-append-le (min m 4) (words_in bs q) R (omega (arith, wide q (r at h))))
    where
      take_twice : (m : ℕ) (xs : List ℕ) → take 4 (take m xs) ≡ take (min m 4) xs
      take_twice m xs =
          elim (cases_lt m 4) [
            | inl l ↦ (let e : m ≡ min m 4 = omega arith in take_all 4 (take m xs) (omega (arith, length-take m xs)) ∙ ap (λ (x : ℕ). take x xs) e)
            | inr l ↦ (let e : 4 ≡ min m 4 = omega arith in take-take 4 m xs l ∙ ap (λ (x : ℕ). take x xs) e)
          ]

module _ (dir : List Chain) (bs : List Block) (kept : Kept dir bs) where
  ranged : (k : ℕ) → k < chain_count → (i : ℕ) → i < blocks_in dir k → walk (next_in bs) i (first_in dir k) < length bs
  ranged k kl i h = kept.0.3 k i kl h

  in_front : (k : ℕ) → k < length (take key_count dir) → Full (get_or (take key_count dir) k none) × ((i : ℕ) → i < (get_or (take key_count dir) k none).blocks → walk (next_in bs) i (get_or (take key_count dir) k none).first < length bs)
  in_front k l =
      let kl : k < key_count = omega (arith, front_long dir bs kept.0) in
      subst (λ (e : Chain). Full e × ((i : ℕ) → i < e.blocks → walk (next_in bs) i e.first < length bs)) (sym (get_or-take key_count dir k none kl)) (kept.1 k kl, ranged k (omega arith))

  -- what the files cost is how many blocks are not free
  pub used_blocks : used 4 (chain_files dir bs) + blocks_in dir key_count ≡ length bs
  used_blocks =
      omega (arith, used_from bs kept.0.2 (take key_count dir) in_front, sum_by_more count dir key_count none (omega (arith, kept.0.0)), ap (sum_by count) (take_all (key_count + 1) dir (omega (arith, kept.0.0))), kept.0.1)

  units_at : (k : ℕ) → k < key_count → units_of 4 (file_at (chain_files dir bs) k) ≡ blocks_in dir k
  units_at k kl = ap (units_of 4) (key_file dir bs kept.0 k kl) ∙ units_chain bs kept.0.2 (chain_at dir k) (kept.1 k kl) (ranged k (omega arith))

  pub put_units : (k : ℕ) (ws : List ℕ) → k < key_count → used 4 (set (chain_files dir bs) k (Some ws)) + blocks_in dir k + blocks_in dir key_count ≡ length bs + cost 4 (length ws)
  put_units k ws kl = omega (arith, used_set 4 (chain_files dir bs) k (Some ws) (omega (arith, files_long dir bs kept.0)), units_at k kl, used_blocks)

  pub file_length : (k : ℕ) → k < key_count → 0 < blocks_in dir k → Some (chain_at dir k).len ≡ length_of (file_at (chain_files dir bs) k)
  file_length k kl h =
      sym (ap length_of (file_some dir bs kept.0 k kl h) ∙ ap Some (length_file bs kept.0.2 (chain_at dir k) (kept.1 k kl) (ranged k (omega arith)) h))

  pub part_of : (k at p n : ℕ) → k < key_count → at < blocks_in dir k → p ≡ walk (next_in bs) at (first_in dir k) → n ≡ min ((chain_at dir k).len - 4 * at) 4 → take n (words_in bs p) ≡ take 4 (drop (at * 4) (words_of (file_at (chain_files dir bs) k)))
  part_of k at p n kl h pe ne =
      ap (λ (x : ℕ). take x (words_in bs p)) ne
      ∙ ap (λ (x : ℕ). take (min ((chain_at dir k).len - 4 * at) 4) (words_in bs x)) pe
      ∙ part_at bs kept.0.2 (chain_at dir k) at (kept.1 k kl) (ranged k (omega arith)) h
      ∙ ap (λ f. take 4 (drop (at * 4) (words_of f))) (sym (file_some dir bs kept.0 k kl (omega arith)))

  pub part_past : (k at : ℕ) → k < key_count → blocks_in dir k ≤ at → [] ≡ take 4 (drop (at * 4) (words_of (file_at (chain_files dir bs) k)))
  part_past k at kl h =
      elim (cases_lt 0 (blocks_in dir k)) [
        | inl some ↦ (
            let full = kept.1 k kl some in
            let l = length_file bs kept.0.2 (chain_at dir k) (kept.1 k kl) (ranged k (omega arith)) some in
            sym (ap (λ f. take 4 (drop (at * 4) (words_of f))) (file_some dir bs kept.0 k kl some) ∙ ap (take 4) (drop_all (at * 4) _ (omega (arith, full, l)))))
        | inr off ↦ part_none 4 (at * 4) _ (file_none dir bs kept.0 k kl off)
      ]

pub empty_file : (bs : List Block) (e : Chain) → e.blocks ≤ 0 → chain_file bs e ≡ None
empty_file bs e h = cond-false _ (Some (take e.len (chain_content bs e))) None (le-ltb 0 _ h)

pub whole_file : (bs : List Block) (e : Chain) (ws : List ℕ) → 0 < e.blocks → take e.len (chain_content bs e) ≡ ws → chain_file bs e ≡ Some ws
whole_file bs e ws some h = cond-true _ _ None (lt-ltb 0 _ some) ∙ ap Some h

-- a key that holds a file is one of the keys
pub held_low : (c : Chains) (k : ℕ) → is_some (file_at (files_in c) k) ≡ true → k < key_count
held_low c k h = elim (cases_lt k key_count) [ inl l ↦ l | inr l ↦ absurd (both_ways _ (ap is_some (file_past c.dir.now c.blocks.now c.linked k l)) h) ]

-- one chain changes, and what the others hold stays
module _ (n m : Chains) (k : ℕ) (full : AllFull n.dir.now) (kl : k < key_count) (others : (j : ℕ) → (j ≡ k → ⊥) → j < key_count → Same m n j) where
  pub changed_files : (f : File) → file_of m k ≡ f → files_in m ≡ set (files_in n) k f
  changed_files f e =
      files_set (files_in m) (files_in n) k f (files_long m.dir.now m.blocks.now m.linked) (files_long n.dir.now n.blocks.now n.linked) kl (key_file m.dir.now m.blocks.now m.linked k kl ∙ e)
      (λ j ne jl. key_file m.dir.now m.blocks.now m.linked j jl ∙ (others j ne jl).1 ∙ sym (key_file n.dir.now n.blocks.now n.linked j jl))

  pub changed_kept : Full (chain_of m k) → Kept m.dir.now m.blocks.now
  changed_kept new = (m.linked, λ j jl. grind (arith, common_steps, others j, full j))

  -- it has no blocks now
  module _ (empty : (chain_of m k).blocks ≡ 0) where
    pub freed_files : files_in m ≡ set (files_in n) k None
    freed_files = changed_files None (empty_file m.blocks.now (chain_of m k) (omega arith))

    pub freed_kept : Kept m.dir.now m.blocks.now
    freed_kept = changed_kept (λ h. absurd (omega arith))

-- a file in parts of four words
take_append : (n : ℕ) (p q : List ℕ) → take n (p ++ q) ≡ take n p ++ take (n - length p) q
take_append zero [] q = refl
take_append (suc n) [] q = let e : suc n ≡ suc n - 0 = omega arith in ap (λ (m : ℕ). take m q) e
take_append zero (x ∷ p) q = let e : 0 ≡ 0 - suc (length p) = omega arith in ap (λ (m : ℕ). take m q) e
take_append (suc n) (x ∷ p) q =
    let e : n - length p ≡ suc n - suc (length p) = omega arith in
    ap (λ ys. x ∷ ys) (take_append n p q ∙ ap (λ (m : ℕ). take n p ++ take m q) e)

-- one part more in front
pub part_more : (ws part C : List ℕ) (q r : ℕ) → r ≡ q + 4 → length part ≡ 4 → take (length ws - q) part ≡ take 4 (drop q ws) → take (length ws - r) C ≡ drop r ws → take (length ws - q) (part ++ C) ≡ drop q ws
part_more ws part C q r e l h t =
    let m : length ws - q - length part ≡ length ws - r = omega arith in
    take_append (length ws - q) part C
    ∙ ap (λ xs. xs ++ take (length ws - q - length part) C) h
    ∙ ap (λ (m : ℕ). take 4 (drop q ws) ++ take m C) m
    ∙ ap (λ ys. take 4 (drop q ws) ++ ys) (t ∙ ap (λ (m : ℕ). drop m ws) e ∙ sym (drop-drop 4 q ws))
    ∙ take-append-drop 4 (drop q ws)

-- what the ghost fields of a store say
pub store_facts : (dir : List Chain) (bs : List Block) → Kept dir bs → AllFull dir × (length (chain_files dir bs) ≡ key_count) × (used 4 (chain_files dir bs) ≤ length bs)
store_facts dir bs kept = (kept.1, files_long dir bs kept.0, omega (arith, used_blocks dir bs kept))
