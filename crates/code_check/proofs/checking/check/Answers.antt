use Rattle.code_check.proofs.Lawfully.{judged}
use Rattle.code_check.proofs.Meanings.{meant, gives}
use Rattle.code_check.proofs.Worked.{examples}
use Rattle.code_check.proofs.checking.check.Goals as goal

pub returns : goal.returns
returns c =
    let s = c.args.store.now in
    let e = c.check_window.ensures in
    record {
      is = e;
      judged = judged s c.args.base c.args.m _ e;
      meant = meant;
      gives = gives s c.args.base c.args.m _ e;
      examples = examples;
    }
