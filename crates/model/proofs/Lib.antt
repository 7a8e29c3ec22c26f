-- lists, trees, deduction
pub mod Tests
pub mod Lists
pub mod Trees
pub mod Deduction
-- the known list: composing and settling
pub mod Entries
pub mod Growing
pub mod Composing
pub mod Marking
pub mod Keeping
pub mod Settling
pub mod Resting
-- lives: what a state has, and when a term can be said
pub mod Lived
pub mod Saying
pub mod Blame
pub mod Lives
-- the machine; sheets, which tell the term that each register is for
pub mod Machine
pub mod Exec
pub mod Sheets
pub mod Feeding
pub mod After
pub mod Agree
pub mod Values
pub mod Unbroken
-- composing and settling on sheets
pub mod Grounds
pub mod Filling
pub mod Marked
pub mod Turning
pub mod Lines
-- one role on values, line by line
pub mod Sound
pub mod Holdings
pub mod Standing
pub mod Adding
pub mod Chosen
pub mod Scripts
pub mod Fitting
pub mod Actors
pub mod Linked
pub mod Speaking
pub mod Bills
-- specifications: names, composing, settling, programs, counts
pub mod Duties
pub mod Names
pub mod ComposingLaw
pub mod SettlingLaw
pub mod Living
pub mod Counts
pub mod Filled
pub mod ProgramLaw
pub mod Counting
pub mod CountLaw
pub mod Deducible
-- sessions
pub mod Doing
pub mod Attends
pub mod Coming
pub mod Attending
pub mod Tried
pub mod Answering
pub mod Sums
pub mod Following
pub mod Choosing
pub mod Fair
pub mod OutOfTurn
pub mod RefusalLaw
pub mod SessionLaw
-- what is computed
pub mod WorkedExamples
pub mod OrderExamples
pub mod Narration
pub mod NewNames
-- for the code above: loops that go through a list
pub mod Scans
