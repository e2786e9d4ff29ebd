-- What words hold is what was read from them.
use Rattle.std.proofs.Common.{◌≡◌, ℕ, zero, suc, ◌+◌, ◌≤◌, Bool, true, false, cond, List, [], ◌∷◌, map, length, take, drop, None, sym, refl, ap, ◌∙◌, ap₂, le_refl, arith}
use lib.Seq.{take-append_seam, drop-append_seam}
use Rattle.std.proofs.lemmas.Bool.{ne_eqb}
use Rattle.base.specs.Named.{Name}
use Rattle.base.specs.declared.texts.ShortText.{ShortText}
use Rattle.base.specs.declared.texts.TextKind.{TextKind}
use Rattle.base.specs.declared.texts.TextKind.TheVariants.{Name as name, Version as version}
use Rattle.base.specs.Texts.{holds, padded, spelt}
use Rattle.base.proofs.Rows.{held, same_row}
use Rattle.package.specs.declared.package.Package.{Package}
use Rattle.package.specs.Words.{content_length, file_kind, path, is_end}
use Rattle.package.specs.Checks.{item, nothing, contents, refusal}
use Rattle.package.specs.Packages.{Carried, Rising, text_words, text_in, behind_text, files_in, package_in, name_in}
use Rattle.package.specs.Accepted.{package_refusal}
use Rattle.package.specs.Files.{files_of}
use Rattle.package.specs.declared.label.Label.{Label}
use Rattle.package.specs.Labels.{Labelling, files_by}
use Rattle.package.specs.Readings.{Naming}
use Rattle.package.proofs.Tests.{refusal_none}
use Rattle.encoding.proofs.Decodes.{content_decodes}
use Rattle.encoding.proofs.Exact.{accepted_encoded}
use Rattle.steps.specs.Goods.{stored, row_holding, name_row_in, goods_in}
use Rattle.package.specs.Wares.{Ware, wares}
use Rattle.package.proofs.Handing.{passed_over}
use Rattle.package.proofs.Placed.{reading_of}
use Rattle.steps.specs.Wares.{Distinct}
use Rattle.steps.proofs.Restores.{Apart}

-- the files in words without a fault: their contents are the words of the bytes that are read
files_stored : (m : ℕ) (ws : List ℕ) (count floor place : ℕ) → length ws ≤ m → refusal (item count floor) place ws ≡ None
    → wares 0 ws ≡ map stored (files_in (item count floor) ws)
files_stored m [] count floor place l h = refl
files_stored zero (w ∷ ws) count floor place l h = absurd (omega arith)
files_stored (suc m) (w ∷ ws) count floor place l h =
    go (is_end w) (refusal_none (item count floor) place w ws h).1
    (λ rest i. files_stored m rest (count + 1) (path w + 1) (place + 1 + content_length w) i)
  where
    go : (b : Bool) → refusal (cond b nothing (contents (content_length w) (item (count + 1) (path w + 1)))) (place + 1) ws ≡ None
        → ((rest : List ℕ) → length rest ≤ m → refusal (item (count + 1) (path w + 1)) (place + 1 + content_length w) rest ≡ None
        → wares 0 rest ≡ map stored (files_in (item (count + 1) (path w + 1)) rest))
        → cond b [] (record { kind = file_kind w; path = path w; words = take (content_length w) ws } ∷ wares (content_length w) ws)
        ≡ map stored (cond b [] (record { kind = file_kind w; path = path w; content = text_in (cond b nothing (contents (content_length w) (item (count + 1) (path w + 1)))) ws } ∷ files_in (cond b nothing (contents (content_length w) (item (count + 1) (path w + 1)))) ws))
    go true r ih = refl
    go false r ih =
        let n = content_length w in
        let due = contents n (item (count + 1) (path w + 1)) in
        let d = content_decodes n (count + 1) (path w + 1) (place + 1) ws r in
        let tw = text_words (text_in due ws) in
        let rest = behind_text due ws in
        let sh = d.shorter in
        let taken : take n ws ≡ tw = ap₂ take (sym d.long) (sym d.split) ∙ take-append_seam tw rest in
        let left : drop n ws ≡ rest = ap₂ drop (sym d.long) (sym d.split) ∙ drop-append_seam tw rest in
        ap₂ (λ (t : List ℕ) (xs : List Ware). record { kind = file_kind w; path = path w; words = t } ∷ xs) taken
        (passed_over n ws ∙ ap (wares 0) left ∙ ih rest (omega arith) d.run ∙ ap (map stored) (sym d.same))

pub files_read : (p : Package) → files_of p ≡ (goods_in p.words.now).files
files_read p =
    let reading = reading_of p in
    let ws = drop p.first_file p.words.now in
    files_stored (length ws) ws 0 0 p.first_file (le_refl (length ws)) reading.sound ∙ ap (map stored) reading.filed

-- of words and the label that was read from them, the same
pub labelled_files : (words : List ℕ) (l : Label) → Labelling words l → files_by l words ≡ (goods_in words).files
labelled_files words l h =
    let ws = drop l.first_file words in
    files_stored (length ws) ws 0 0 l.first_file (le_refl (length ws)) h.sound ∙ ap (map stored) h.filed

-- a row is told by its text
row_told : (kind : TextKind) (row : ShortText) (text : List ℕ) → holds kind row.bytes ≡ true → spelt row.bytes ≡ text → row ≡ row_holding text
row_told kind row text h e = same_row row (row_holding text) (sym (held kind row.bytes h).1 ∙ ap padded e)

pub naming_row : (words : List ℕ) (n : Name) → Naming words n → n.row ≡ name_row_in words
naming_row words n naming = row_told name n.row (name_in words) n.allowed naming.named

pub goods_read : (p : Package) → goods_in p.words.now ≡ record { name = p.name.row; version = p.version.row; files = files_of p }
goods_read p =
    let en = row_told name p.name.row _ p.name.allowed p.named in
    let ev = row_told version p.version.row _ p.version.allowed p.versioned in
    let ef = files_read p in
    sym (λ i. record { name = en i; version = ev i; files = ef i })

-- paths that rise are no path twice
above : (p floor : ℕ) (fs : List Carried) → p + 1 ≤ floor → Rising floor fs → Apart p (map stored fs)
above p floor [] l r = tt
above p floor (f ∷ fs) l r =
    let a = r.0 in
    (ne_eqb f.path p (λ e. omega arith), above p (f.path + 1) fs (omega arith) r.1)

rising_distinct : (floor : ℕ) (fs : List Carried) → Rising floor fs → Distinct (map stored fs)
rising_distinct floor [] r = tt
rising_distinct floor (f ∷ fs) r = (above f.path (f.path + 1) fs (le_refl (f.path + 1)) r.1, rising_distinct (f.path + 1) fs r.1)

pub goods_distinct : (words : List ℕ) → package_refusal words ≡ None → Distinct (goods_in words).files
goods_distinct words h = rising_distinct 0 (package_in words).files (accepted_encoded words h).0.rising

-- a package carries no path twice
pub files_distinct : (p : Package) → Distinct (goods_in p.words.now).files
files_distinct p = goods_distinct p.words.now (reading_of p).accepted
