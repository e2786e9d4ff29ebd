use Rattle.std.proofs.Common.{◌≡◌, ◌≤◌, length, get_or, rules}
use Rattle.package.specs.Packages.{text_word}
use Rattle.pack.proofs.Texts.{no_bytes, three_bytes}
use Rattle.pack.proofs.encode.first_text_word.Goals as goal

pub returns-in-empty : goal.returns-in-empty
returns-in-empty c =
    let h : length c.args.text.now ≡ 0 = search rules in
    no_bytes c.args.text.now h

pub returns-in-len3-up : goal.returns-in-len3-up
returns-in-len3-up c =
    let text = c.args.text.now in
    let h : 3 ≤ length text = search rules in
    let e : c.text_word-in-len3-up.result ≡ text_word 3 (get_or text 0 0) (get_or text 1 0) (get_or text 2 0) = search rules in
    three_bytes text c.text_word-in-len3-up.result h e
