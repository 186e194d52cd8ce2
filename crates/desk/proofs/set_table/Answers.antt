-- `desk::set_table`: a clause of the definition for each frame.
use Rattle.desk.proofs.set_table.Goals as goal

pub returns-in-Task : goal.returns-in-Task
returns-in-Task c = rw c.in-Task.is (c.add_task.ensures c.args.memory.now)

pub returns-in-Queue : goal.returns-in-Queue
returns-in-Queue c = rw c.in-Queue.is (c.add_queue.ensures c.args.memory.now)

pub returns-in-Go : goal.returns-in-Go
returns-in-Go c = rw c.in-Go.is c.go.ensures
