mod AskedReports
mod FaultsOfCommands
mod GivenFaults
mod CallFaults
