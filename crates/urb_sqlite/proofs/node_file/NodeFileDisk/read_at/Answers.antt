use Rattle.urb_sqlite.proofs.node_file.NodeFileDisk.read_at.Goals as goal

pub returns-in-First-clause-read : goal.returns-in-First-clause-read
returns-in-First-clause-read g c = rw c.in-First.is c.read_at.ensures.read

pub returns-in-Second-clause-read : goal.returns-in-Second-clause-read
returns-in-Second-clause-read g c = rw c.in-Second.is c.read_at-in-Second.ensures.read

pub returns-in-Third-clause-read : goal.returns-in-Third-clause-read
returns-in-Third-clause-read g c = rw c.in-Third.is c.read_at-in-Third.ensures.read

pub returns-in-Fourth-clause-read : goal.returns-in-Fourth-clause-read
returns-in-Fourth-clause-read g c = rw c.in-Fourth.is c.read_at-in-Fourth.ensures.read

pub returns-in-Fifth-clause-read : goal.returns-in-Fifth-clause-read
returns-in-Fifth-clause-read g c = rw c.in-Fifth.is c.read_at-in-Fifth.ensures.read

pub returns-in-Sixth-clause-read : goal.returns-in-Sixth-clause-read
returns-in-Sixth-clause-read g c = rw c.in-Sixth.is c.read_at-in-Sixth.ensures.read

pub returns-in-Seventh-clause-read : goal.returns-in-Seventh-clause-read
returns-in-Seventh-clause-read g c = rw c.in-Seventh.is c.read_at-in-Seventh.ensures.read
