-- Several changes of one path are one.
use Rattle.std.proofs.Common.{◌≡◌, ℕ, Bool, true, false, cond, eqb, List, Some, None, sym, refl, ap, ◌∙◌}
use mathlib.Core.Path.{fun_ext}
use Rattle.base.specs.declared.files.FileKind.{FileKind}
use Rattle.store.specs.Files.{Files, file_at}
use Rattle.store.specs.Sides.{Sides, key_of, sides_at, side_of, with_side, carried, change, admits_side}
use Rattle.store.specs.declared.side.Side.{Side}
use Rattle.store.specs.declared.side.Side.TheVariants.{Place, Aside, Pending, PendingAside}
use Rattle.steps.specs.Steps.{home, refuge, set_aside, room_for, lay_step, put_back, passed}
use Rattle.steps.specs.declared.pass.Pass.{Pass}

pub side_file : (fs : Files) (p : ℕ) (s : Side) → file_at fs (key_of p s) ≡ side_of s (sides_at fs p)
side_file fs p Place = refl
side_file fs p Aside = refl
side_file fs p Pending = refl
side_file fs p PendingAside = refl

-- two changes of one path are one
twice : (p : ℕ) (g h : Sides → Sides) (f : ℕ → Sides) → change p g (change p h f) ≡ change p (λ x. g (h x)) f
twice p g h f = fun_ext (λ q. go q (eqb q p))
  where
    go : (q : ℕ) (b : Bool) → cond b (g (cond b (h (f q)) (f q))) (cond b (h (f q)) (f q)) ≡ cond b (g (h (f q))) (f q)
    go q true = refl
    go q false = refl

pub passed_as : (p : ℕ) (f : ℕ → Sides) (a b : Pass) (j k : FileKind) → a ≡ b → j ≡ k → change p (passed b k) f ≡ change p (passed a j) f
passed_as p f a b j k e d = ap (λ (x : Pass). change p (passed x k) f) (sym e) ∙ ap (λ (x : FileKind). change p (passed a x) f) (sym d)

module _ (kind : FileKind) (p : ℕ) (h r : Side) (eh : h ≡ home kind) (er : r ≡ refuge kind) (f f₁ : ℕ → Sides) where
  pub back_one : (f₂ : ℕ → Sides) → f₁ ≡ change p (with_side h None) f → f₂ ≡ change p (carried r h) f₁ → f₂ ≡ change p (put_back kind) f
  back_one f₂ e₁ e₂ =
      e₂ ∙ ap (change p (carried r h)) e₁ ∙ (λ i. change p (carried (er i) (eh i)) (change p (with_side (eh i) None) f)) ∙ twice p (carried (refuge kind) (home kind)) (with_side (home kind) None) f

  aside_one : f₁ ≡ change p (carried h r) f → f₁ ≡ change p (set_aside kind) f
  aside_one e₁ = e₁ ∙ (λ i. change p (carried (eh i) (er i)) f)

  pub lay_one : (words : List ℕ) (b : Bool) (f₂ : ℕ → Sides) → f₁ ≡ change p (carried h r) f → f₂ ≡ cond b (change p (with_side h (Some words)) f₁) f₁ → f₂ ≡ change p (lay_step b kind words) f
  lay_one words b f₂ e₁ e₂ =
      e₂ ∙ ap (λ (s : Side). cond b (change p (with_side s (Some words)) f₁) f₁) eh
      ∙ ap (λ (g : ℕ → Sides). cond b (change p (with_side (home kind) (Some words)) g) g) (aside_one e₁)
      ∙ go b
    where
      go : (b : Bool) → cond b (change p (with_side (home kind) (Some words)) (change p (set_aside kind) f)) (change p (set_aside kind) f) ≡ change p (lay_step b kind words) f
      go true = twice p (with_side (home kind) (Some words)) (set_aside kind) f
      go false = refl

  pub room_one : (words : List ℕ) (block u u₁ : ℕ) (b : Bool) → f₁ ≡ change p (carried h r) f → u₁ ≡ u → b ≡ admits_side block u₁ f₁ p h words → b ≡ room_for block u kind p words f
  room_one words block u u₁ b e₁ eu e =
      e ∙ ap (λ (n : ℕ). admits_side block n f₁ p h words) eu
      ∙ ap (λ (g : ℕ → Sides). admits_side block u g p h words) (aside_one e₁)
      ∙ ap (λ (s : Side). admits_side block u (change p (set_aside kind) f) p s words) eh
