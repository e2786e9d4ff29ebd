-- An image that was looked through, with its free blocks chained, is a sound store with the files that it had.
use Rattle.std.proofs.Common.{◌≡◌, ℕ, zero, suc, ◌+◌, ◌<◌, Bool, true, false, cond, ltb, List, ◌++◌, map, length, get_or, take, set, Some, None, sum_by, count_by, sym, refl, ap, ◌∙◌, subst, arith}
use mathlib.Core.Path.{fun_ext}
use Rattle.std.proofs.lemmas.Grind.{common_steps}
use Rattle.std.proofs.lemmas.List.{get_or-set_same, get_or-set_other, get_or-take, ext_get_or, length-map, length-set, length-take, take_all, take-set}
use Rattle.std.proofs.lemmas.List.Sums.{sum_by_more}
use Rattle.store.specs.Files.{key_count}
use Rattle.block_store.specs.Walks.{chain_count, walk, content}
use Rattle.block_store.specs.Chained.{none, next_in, words_in, chain_at, first_in, blocks_in, chain_file, chain_files, Full, Kept}
use Rattle.block_store.specs.Taking.{Whole, Damaged, seen_in, unseen, Untouched, Marks, Unmarked}
use Rattle.block_store.specs.declared.cells.Block.{Block}
use Rattle.block_store.specs.declared.cells.Chain.{Chain}

-- walks over blocks that lead where they led
walk_like : (nx nx' : ℕ → ℕ) (i p : ℕ) → ((m : ℕ) → m < i → nx' (walk nx m p) ≡ nx (walk nx m p)) → walk nx' i p ≡ walk nx i p
walk_like nx nx' zero p h = refl
walk_like nx nx' (suc i) p h = ap (walk nx' i) (h 0 (omega arith)) ∙ walk_like nx nx' i (nx p) (λ m l. h (suc m) (omega arith))

content_like : (nx nx' : ℕ → ℕ) (wd wd' : ℕ → List ℕ) (c p : ℕ) → ((m : ℕ) → m < c → (nx' (walk nx m p) ≡ nx (walk nx m p)) × (wd' (walk nx m p) ≡ wd (walk nx m p))) → content nx' wd' c p ≡ content nx wd c p
content_like nx nx' wd wd' zero p h = refl
content_like nx nx' wd wd' (suc c) p h =
    ap (λ x. x ++ content nx' wd' c (nx' p)) (h 0 (omega arith)).1
    ∙ ap (λ q. wd p ++ content nx' wd' c q) (h 0 (omega arith)).0
    ∙ ap (λ x. wd p ++ x) (content_like nx nx' wd wd' c (nx p) (λ m l. h (suc m) (omega arith)))

map_like : {X Y : Type 0} (g g' : X → Y) (d : X) (xs : List X) → ((j : ℕ) → j < length xs → g' (get_or xs j d) ≡ g (get_or xs j d)) → map g' xs ≡ map g xs
map_like g g' d xs h = ext_get_or (g d) (map g' xs) (map g xs) (length-map xs g' ∙ sym (length-map xs g)) (λ i l. grind (arith, common_steps, h i))

module _
    (dir : List Chain) (old new : List Block) (free : Chain) (long : length dir ≡ chain_count) (same : length new ≡ length old) (marks : Marks dir old key_count)
    (kept : (q : ℕ) → seen_in old q ≡ true → (next_in new q ≡ next_in old q) × (words_in new q ≡ words_in old q))
    (wide : (q : ℕ) → q < length old → seen_in old q ≡ false → length (words_in new q) ≡ 4)
    (unmarked : Unmarked old new free.first free.blocks) (total : free.blocks ≡ count_by unseen old)
  where
    abbrev tdir : List Chain
    tdir = set dir key_count free

    t_free : chain_at tdir key_count ≡ free
    t_free = get_or-set_same dir key_count free none (omega arith)

    t_key : (k : ℕ) → k < key_count → chain_at tdir k ≡ chain_at dir k
    t_key k l = get_or-set_other dir key_count k free none (λ e. omega arith)

    front : take key_count tdir ≡ take key_count dir
    front = take-set dir key_count free

    -- the chains of the keys are as they were
    walk_key : (k i : ℕ) → k < key_count → i < blocks_in dir k → walk (next_in new) i (first_in dir k) ≡ walk (next_in old) i (first_in dir k)
    walk_key k i kl il = walk_like (next_in old) (next_in new) i (first_in dir k) (λ m l. (kept _ (marks.1 k m kl (omega arith)).0).0)

    pub taken_files : chain_files tdir new ≡ chain_files dir old
    taken_files =
        ap (map (chain_file new)) front
        ∙ map_like (chain_file old) (chain_file new) none (take key_count dir)
        (λ k l.
        let kl : k < key_count = omega (arith, length-take key_count dir) in
        subst (λ (e : Chain). chain_file new e ≡ chain_file old e) (sym (get_or-take key_count dir k none kl))
        (ap (λ ws. cond (ltb 0 (blocks_in dir k)) (Some (take (chain_at dir k).len ws)) None)
        (content_like (next_in old) (next_in new) (words_in old) (words_in new) (blocks_in dir k) (first_in dir k) (λ m h. kept _ (marks.1 k m kl h).0))))

    all_wide : (q : ℕ) → q < length new → length (words_in new q) ≡ 4
    all_wide q l = go (seen_in old q) refl
      where
        go : (t : Bool) → seen_in old q ≡ t → length (words_in new q) ≡ 4
        go true on = let s = marks.2 q on in ap length (kept q on).1 ∙ ap (λ (x : ℕ). length (words_in old x)) (sym s.4) ∙ (marks.1 s.0 s.1 s.2 s.3).1
        go false off = wide q (omega arith) off

    within : (k i : ℕ) → k < chain_count → i < blocks_in tdir k → walk (next_in new) i (first_in tdir k) < length new
    within k i kl il = grind (arith, common_steps, unmarked.0 i, marks.0.1 k i, walk_key k i)

    two_free : (i m : ℕ) → i < free.blocks → m < free.blocks → walk (next_in new) i free.first ≡ walk (next_in new) m free.first → i ≡ m
    two_free i m il ml e = grind (arith, common_steps, unmarked.1 i m, unmarked.1 m i)

    key_free : (k i m : ℕ) → k < key_count → i < blocks_in dir k → m < free.blocks → walk (next_in new) i (first_in dir k) ≡ walk (next_in new) m free.first → ⊥
    key_free k i m kl il ml e = grind (arith, common_steps, unmarked.0 m, walk_key k i, marks.1 k i)

    apart : (j k i m : ℕ) → j < chain_count → k < chain_count → i < blocks_in tdir j → m < blocks_in tdir k → walk (next_in new) i (first_in tdir j) ≡ walk (next_in new) m (first_in tdir k) → (j ≡ k) × (i ≡ m)
    apart j k i m jl kl il ml e = grind (arith, common_steps, two_free i m, key_free j i m, key_free k m i, marks.0.2 j k i m, walk_key j i, walk_key k m)

    pub taken_kept : Kept tdir new
    taken_kept = (
      (
        length-set dir key_count free ∙ long,
        omega (arith, marks.3, total, sum_by_more (λ (e : Chain). e.blocks) tdir key_count none (omega (arith, length-set dir key_count free)), ap (sum_by (λ (e : Chain). e.blocks)) front, ap (λ c. c.blocks) t_free, ap (sum_by (λ (e : Chain). e.blocks)) (take_all (key_count + 1) tdir (omega (arith, length-set dir key_count free)))),
        all_wide,
        within,
        apart,
      ),
      λ k kl. subst (λ (e : Chain). Full e) (sym (t_key k kl)) (marks.0.0 k kl),
    )

-- blocks that lead where they led and hold what they held
pub same_files : (dir : List Chain) (bs new : List Block) → Untouched new bs → chain_files dir new ≡ chain_files dir bs
same_files dir bs new same =
    ap (λ (nx : ℕ → ℕ). map (λ (e : Chain). cond (ltb 0 e.blocks) (Some (take e.len (content nx (words_in new) e.blocks e.first))) None) (take key_count dir)) (fun_ext same.0)
    ∙ ap (λ (wd : ℕ → List ℕ). map (λ (e : Chain). cond (ltb 0 e.blocks) (Some (take e.len (content (next_in bs) wd e.blocks e.first))) None) (take key_count dir)) (fun_ext same.1)

-- no image is whole and damaged
pub not_both : (dir : List Chain) (bs : List Block) (k : ℕ) → Whole dir bs → Damaged dir bs k → ⊥
not_both dir bs k whole bad = grind (arith, common_steps)
