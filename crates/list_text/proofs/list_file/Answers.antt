-- A file over the limit, a refusal, and a body that is found within the file: each way out is a case of the definition.
use mathlib.Core.Path.{refl}
use native.Mathlib.Omega.{arith}
use Rattle.layout.specs.Listing.{refused_line}
use Rattle.list_text.proofs.Texts.{file_listed, text_over, text_refused, stands, body_length, text_found_lem}
use borrow.Author.Rules.{rules}
use Rattle.list_text.proofs.list_file.Goals as goal

pub returns-then-file-gt-LISTED : goal.returns-then-file-gt-LISTED
returns-then-file-gt-LISTED c =
    file_listed c.args.file.now c.args.out.now (refused_line 3 0) _ _ (text_over c.args.file.now c.if-file-gt-LISTED.true) c.put_refused.ensures

pub returns-then-found-ne0 : goal.returns-then-found-ne0
returns-then-found-ne0 c =
    file_listed c.args.file.now c.args.out.now _ _ _ (text_refused c.args.file.now c.if-file-gt-LISTED.false c.find_casm-found.result c.find_casm-found.ensures c.if-found-ne0.true) c.put_refused-then-found-ne0.ensures

pub overflow_add-start : goal.overflow_add-start
overflow_add-start c = omega (arith, (stands c.args.file.now c.if-file-gt-LISTED.false c.find_casm-found.result c.find_casm-found.ensures c.if-found-ne0.false).0)

pub overflow_add-end : goal.overflow_add-end
overflow_add-end c = omega (arith, (stands c.args.file.now c.if-file-gt-LISTED.false c.find_casm-found.result c.find_casm-found.ensures c.if-found-ne0.false).0)

pub slice_bounds-list_body-end : goal.slice_bounds-list_body-end
slice_bounds-list_body-end c = omega (arith, (stands c.args.file.now c.if-file-gt-LISTED.false c.find_casm-found.result c.find_casm-found.ensures c.if-found-ne0.false).0)

pub list_body-requires : goal.list_body-requires
list_body-requires c =
    let l = body_length c.args.file.now c.if-file-gt-LISTED.false c.find_casm-found.result c.find_casm-found.ensures c.if-found-ne0.false _ refl in
    (search rules, omega (arith, (stands c.args.file.now c.if-file-gt-LISTED.false c.find_casm-found.result c.find_casm-found.ensures c.if-found-ne0.false).1, l))

pub returns : goal.returns
returns c =
    file_listed c.args.file.now c.args.out.now _ _ _ (text_found_lem c.args.file.now c.if-file-gt-LISTED.false c.find_casm-found.result c.find_casm-found.ensures c.if-found-ne0.false _ refl) c.list_body.ensures
