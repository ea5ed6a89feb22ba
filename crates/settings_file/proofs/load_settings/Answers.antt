-- `settings_file::load_settings` meets its contract: the queue count first, then the messages behind it.
use Rattle.octets.specs.Prelude.{◌≡◌, sym, ◌∙◌, get_or, drop, arith}
use Rattle.std.proofs.lemmas.Grind.{common_steps}
use Rattle.std.proofs.lemmas.Result.{err_from_is_err_and}
use Rattle.settings_file.proofs.Loads.{load-refused, set-up-done}
use Rattle.settings_file.proofs.load_settings.Goals as goal

pub returns-in_err-set_up-clause-settings : goal.returns-in_err-set_up-clause-settings
returns-in_err-set_up-clause-settings c =
    let count : c.from.result ≡ get_or c.args.file.now 0 0 = grind (arith, common_steps) in
    let e = err_from_is_err_and c.from_residual.result c.from_residual.ensures.1 in
    rw (e.1, e.2) (load-refused c.args.file.now (rw count at c.in_err-set_up.ensures.0))

pub carry_out_all-requires : goal.carry_out_all-requires
carry_out_all-requires c =
    let count : c.from.result ≡ get_or c.args.file.now 0 0 = grind (arith, common_steps) in
    let behind : c.unwrap_or.result.1.now ≡ drop 1 c.args.file.now = grind (arith, common_steps) in
    (set-up-done c.args.file.now _ _ _ _ count behind (sym c.in_ok-set_up.ensures.0) c.set_up.ensures.1).0

pub returns-in_err-carry_out_all-clause-settings : goal.returns-in_err-carry_out_all-clause-settings
returns-in_err-carry_out_all-clause-settings c =
    let count : c.from.result ≡ get_or c.args.file.now 0 0 = grind (arith, common_steps) in
    let behind : c.unwrap_or.result.1.now ≡ drop 1 c.args.file.now = grind (arith, common_steps) in
    let so = (set-up-done c.args.file.now _ _ _ _ count behind (sym c.in_ok-set_up.ensures.0) c.set_up.ensures.1).1 in
    let e = err_from_is_err_and c.from_residual-in_err-carry_out_all.result c.from_residual-in_err-carry_out_all.ensures.1 in
    rw (e.1, e.2) (c.in_err-carry_out_all.ensures.settings ∙ so)

pub returns-clause-settings : goal.returns-clause-settings
returns-clause-settings c =
    let count : c.from.result ≡ get_or c.args.file.now 0 0 = grind (arith, common_steps) in
    let behind : c.unwrap_or.result.1.now ≡ drop 1 c.args.file.now = grind (arith, common_steps) in
    let so = (set-up-done c.args.file.now _ _ _ _ count behind (sym c.in_ok-set_up.ensures.0) c.set_up.ensures.1).1 in
    c.in_ok-carry_out_all.ensures.settings ∙ so
